-- The stations so far have the same numbers.
use Rattle.std.proofs.Common.{ℕ, ◌<◌}
use Rattle.week_units.specs.NightParts.{AreSameIn}
use Rattle.week_units.proofs.nights.first_differing.Given as goal

abbrev pub invariant-loop-station : goal.invariant-loop-station
invariant-loop-station l = (s : ℕ) → s < l.station → AreSameIn l.before l.day s
