-- The least minute of the trips so far.
use Rattle.std.proofs.Common.{◌≡◌, ◌≤◌, ◌<◌, ◌^◌, ℕ, length}
use Rattle.timetable.specs.Day.{leaves}
use Rattle.week_units.proofs.nights.first_minute.Given as goal

abbrev pub invariant-loop-trip : goal.invariant-loop-trip
invariant-loop-trip l =
    ((b : ℕ) → b < l.trip → l.least ≤ leaves l.day b)
    × ((b : ℕ) × (b < length l.day.trips) × (leaves l.day b ≡ l.least))
    × (l.least < 2 ^ 16)
