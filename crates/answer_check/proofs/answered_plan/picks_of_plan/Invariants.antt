use Rattle.std.proofs.Common.{◌≡◌, ℕ, ◌<◌, length, get_or}
use Rattle.timetable.specs.Day.{types_of}
use Rattle.timetable.specs.Links.{list_of}
use Rattle.answer_check.specs.Verdicts.{IsCompOf}
use Rattle.answer_check.proofs.answered_plan.picks_of_plan.Given as goal

-- there is a pick for each trip, and those before this one are the compositions of their lists
abbrev pub invariant-loop-trip : goal.invariant-loop-trip
invariant-loop-trip l = (length l.picks ≡ length l.instance.trips) × ((t : ℕ) → t < l.trip →
    IsCompOf l.instance (types_of l.instance (list_of l.plan t)) (get_or l.picks t 0))
