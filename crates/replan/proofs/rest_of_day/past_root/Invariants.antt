use Rattle.replan.proofs.RootSteps.{IsPastRootTo}
use Rattle.replan.proofs.rest_of_day.past_root.Given as goal

abbrev pub invariant-loop-trip : goal.invariant-loop-trip
invariant-loop-trip l = IsPastRootTo l.disturbance l.trip l.root
