-- The first composition of more units.
use Rattle.std.proofs.Common.{arith, ap, length}
use Rattle.transitions.proofs.Listed.{among_first}
use Rattle.transitions.proofs.pairs.uncoupled_part_count.Goals as goal

pub returns-then-units-gt-MAX_EXCHANGED : goal.returns-then-units-gt-MAX_EXCHANGED
returns-then-units-gt-MAX_EXCHANGED c =
    among_first c.args.instance.now c.catalogue-catalogue.result.now c.loop-part.part c.get.result.now c.catalogue-catalogue.ensures c.get.ensures
    (omega (arith, c.if-units-gt-MAX_EXCHANGED.true, ap length c.units.ensures.value))
