use Rattle.std.proofs.Common.{◌≡◌, map}
use Rattle.timetable.specs.DerivedDays.{old_number}
use Rattle.timetable.specs.Links.{list_of}
use Rattle.timetable.specs.Lists.{below}
use Rattle.replan.proofs.rest_of_day.plan_later.Given as goal

abbrev pub invariant-loop-trip : goal.invariant-loop-trip
invariant-loop-trip l =
    l.lists.items ≡ map (λ t. list_of l.disturbance.plan (old_number l.disturbance.day l.disturbance.cancelled t)) (below l.trip)
