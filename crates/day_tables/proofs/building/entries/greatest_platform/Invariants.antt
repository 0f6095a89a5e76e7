-- The greatest platform so far and those of the stations still to come have the greatest of all.
use Rattle.std.proofs.Common.{◌≡◌, drop}
use Rattle.std.specs.Prelude.{max}
use Rattle.day_tables.specs.Compositions.{greatest_in}
use Rattle.day_tables.proofs.building.entries.greatest_platform.Given as goal

abbrev pub invariant-loop-station : goal.invariant-loop-station
invariant-loop-station l = max l.longest (greatest_in (drop l.station-index l.stations)) ≡ greatest_in l.stations
