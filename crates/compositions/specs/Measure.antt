-- What a measure is of one unit.
use Rattle.std.specs.Prelude.{ℕ}
use Rattle.rules.specs.declared.records.UnitType.{UnitType}
use Rattle.compositions.specs.declared.composition.Measure.{Measure}
use Rattle.compositions.specs.declared.composition.Measure.TheVariants.{Carriages, Seats, FirstSeats, Metres}

-- the number that a measure takes of a unit type
abbrev pub measure_of : Measure → UnitType → ℕ
measure_of Carriages t = t.carriages
measure_of Seats t = t.seats
measure_of FirstSeats t = t.first
measure_of Metres t = t.metres
