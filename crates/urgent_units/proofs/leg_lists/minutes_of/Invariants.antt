-- The minutes of the stations so far.
use Rattle.std.proofs.Common.{◌≡◌, ◌<◌, ℕ, length, Some, slice_get}
use Rattle.urgent_units.specs.Moments.{minutes_at}
use Rattle.urgent_units.proofs.leg_lists.minutes_of.Given as goal

abbrev pub invariant-loop-number : goal.invariant-loop-number
invariant-loop-number l =
    (length l.all.items ≡ l.number)
    × ((s : ℕ) → s < l.number → slice_get l.all.items s ≡ Some (minutes_at (record { stations = l.stations; units = l.units }) s))
