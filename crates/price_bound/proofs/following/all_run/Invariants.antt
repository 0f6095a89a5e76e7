use Rattle.std.proofs.Common.{ℕ, ◌<◌}
use Rattle.transitions.specs.Edges.{IsAdmittedComp}
use Rattle.price_bound.specs.FollowingPicks.{pick_of}
use Rattle.price_bound.proofs.following.all_run.Given as goal

abbrev pub invariant-loop-trip : goal.invariant-loop-trip
invariant-loop-trip l = (t : ℕ) → t < l.trip → IsAdmittedComp l.instance t (pick_of l.picks t)
