use Rattle.unit_duties.specs.Yards.{AreAtHomeBelow}
use Rattle.unit_duties.proofs.yards.units_at_home.Given as goal

abbrev pub invariant-loop-number : goal.invariant-loop-number
invariant-loop-number l = AreAtHomeBelow l.instance l.number l.yards
