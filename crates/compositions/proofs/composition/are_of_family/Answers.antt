use Rattle.std.proofs.Common.{arith}
use Rattle.std.proofs.lemmas.Bool.{iff_false}
use Rattle.compositions.proofs.Families.{family_more, family_differs}
use Rattle.compositions.proofs.composition.are_of_family.Goals as goal

pub returns-then-not-is : goal.returns-then-not-is
returns-then-not-is c =
    family_differs c.args.types.now c.args.family.now c.args.units.now c.loop-unit.unit-index c.unit-item.result
    c.get.result.now (omega arith) c.unit-item.is c.get.ensures.value (iff_false c.is.ensures c.if-not-is.true)

pub loop-unit-preserved : goal.loop-unit-preserved
loop-unit-preserved c =
    family_more c.args.types.now c.args.family.now c.args.units.now c.loop-unit.unit-index c.unit-item.result
    c.get.result.now c.loop-unit.invariant (omega arith) c.unit-item.is c.get.ensures.value
    (c.is.ensures.0 c.if-not-is.false)
