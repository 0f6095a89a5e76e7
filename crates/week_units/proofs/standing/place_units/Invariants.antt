-- The units that are named so far are at their places.
use Rattle.week_units.specs.Listed.{ArePlaced}
use Rattle.week_units.proofs.standing.place_units.Given as goal

abbrev pub invariant-loop-place : goal.invariant-loop-place
invariant-loop-place l = ArePlaced l.names l.places l.place l.initial.units l.units
