-- The units are under way.
use Rattle.urgent_units.specs.UnderWay.{Advances, IsUnderWay, legs_left}
use Rattle.urgent_units.proofs.swaps.exchange_all.Given as goal

abbrev pub invariant-loop-number : goal.invariant-loop-number
invariant-loop-number l = record {
  way : IsUnderWay l.instance l.yards;
  advances : Advances l.instance l.fn.yards l.yards;
}

abbrev pub decreases-loop-number : goal.decreases-loop-number
decreases-loop-number l = legs_left l.yards
