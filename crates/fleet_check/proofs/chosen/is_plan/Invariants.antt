use Rattle.std.proofs.Common.{ℕ, ◌<◌}
use Rattle.timetable.specs.Links.{list_of}
use Rattle.timetable.specs.Running.{AreUnits}
use Rattle.fleet_check.proofs.chosen.is_plan.Given as goal

-- the lists so far have units of the day alone
abbrev pub invariant-loop-trip : goal.invariant-loop-trip
invariant-loop-trip l = (t : ℕ) → t < l.trip → AreUnits l.day (list_of l.plan t)
