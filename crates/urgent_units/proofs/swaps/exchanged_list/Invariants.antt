-- The units so far.
use Rattle.std.proofs.Common.{◌≡◌, map}
use Rattle.std.specs.Prelude.{take}
use Rattle.urgent_units.specs.Exchanges.{in_place}
use Rattle.urgent_units.proofs.swaps.exchanged_list.Given as goal

abbrev pub invariant-loop-unit : goal.invariant-loop-unit
invariant-loop-unit l = l.list.items ≡ map (in_place l.instance l.exchange.one l.exchange.other l.exchange.minute l.trip) (take l.unit-index l.units)
