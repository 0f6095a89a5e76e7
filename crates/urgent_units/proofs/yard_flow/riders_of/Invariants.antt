-- The units so far.
use Rattle.std.proofs.Common.{◌≡◌, map}
use Rattle.std.specs.Prelude.{take}
use Rattle.urgent_units.specs.YardFlow.{rider_at_home}
use Rattle.urgent_units.proofs.yard_flow.riders_of.Given as goal

abbrev pub invariant-loop-unit : goal.invariant-loop-unit
invariant-loop-unit l = l.riders.items ≡ map (rider_at_home l.brought) (take l.unit-index l.units)
