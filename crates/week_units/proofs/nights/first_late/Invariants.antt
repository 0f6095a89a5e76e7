-- The trips so far are in time.
use Rattle.std.proofs.Common.{ℕ, ◌<◌}
use Rattle.week_units.specs.Weeks.{IsLate}
use Rattle.week_units.proofs.nights.first_late.Given as goal

abbrev pub invariant-loop-trip : goal.invariant-loop-trip
invariant-loop-trip l = (t : ℕ) → t < l.trip → ¬ IsLate l.before l.day t
