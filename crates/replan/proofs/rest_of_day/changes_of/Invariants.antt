use Rattle.std.proofs.Common.{◌≡◌}
use Rattle.timetable.specs.Lists.{listed}
use Rattle.price_bound.specs.declared.changes.Change.{Change}
use Rattle.replan.specs.RestsOfDays.{planned_comp}
use Rattle.replan.proofs.rest_of_day.changes_of.Given as goal

abbrev pub invariant-loop-trip : goal.invariant-loop-trip
invariant-loop-trip l =
    l.changes.items ≡ listed {X = Change} (λ t. record { trip = t; base = planned_comp l.disturbance t; cost = l.disturbance.change }) l.trip
