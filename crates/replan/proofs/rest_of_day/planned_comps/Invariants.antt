use Rattle.std.proofs.Common.{◌≡◌, ℕ, ◌<◌, length, get_or}
use Rattle.replan.specs.RestsOfDays.{planned_comp}
use Rattle.replan.proofs.rest_of_day.planned_comps.Given as goal

abbrev pub invariant-loop-trip : goal.invariant-loop-trip
invariant-loop-trip l =
    (length l.planned ≡ l.trips) × ((t : ℕ) → t < l.trip → get_or l.planned t 0 ≡ planned_comp l.disturbance t)
