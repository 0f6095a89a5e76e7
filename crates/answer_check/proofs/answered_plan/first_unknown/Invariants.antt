use Rattle.std.proofs.Common.{ℕ, ◌<◌}
use Rattle.timetable.specs.Links.{list_of}
use Rattle.timetable.specs.Running.{AreUnits}
use Rattle.answer_check.proofs.answered_plan.first_unknown.Given as goal

-- the lists before this one have units of the day alone
abbrev pub invariant-loop-trip : goal.invariant-loop-trip
invariant-loop-trip l = (t : ℕ) → t < l.trip → AreUnits l.instance (list_of l.lists t)
