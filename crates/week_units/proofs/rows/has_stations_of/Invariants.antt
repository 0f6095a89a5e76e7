-- The stations so far are the same.
use Rattle.std.proofs.Common.{◌≡◌, take}
use Rattle.week_units.proofs.rows.has_stations_of.Given as goal

abbrev pub invariant-loop-station : goal.invariant-loop-station
invariant-loop-station l = take l.station l.day.stations ≡ take l.station l.first.stations
