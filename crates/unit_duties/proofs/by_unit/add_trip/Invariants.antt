use Rattle.std.proofs.Common.{take}
use Rattle.unit_duties.proofs.Stopping.{AddedSoFar}
use Rattle.unit_duties.proofs.by_unit.add_trip.Given as goal

abbrev pub invariant-loop-place : goal.invariant-loop-place
invariant-loop-place l = AddedSoFar l.trip (take l.place l.units) l.initial.lists l.lists
