use Rattle.std.proofs.Common.{arith, ◌∙◌, sym}
use Rattle.compositions.proofs.Lookup.{all_before}
use Rattle.compositions.proofs.catalogue.first_not_before.Goals as goal

pub loop-low-preserved-then-is_before : goal.loop-low-preserved-then-is_before
loop-low-preserved-then-is_before c = (
  omega arith,
  c.loop-low.invariant.1,
  all_before c.args.compositions.now c.requires c.args.composition.now _ c.index-compositions-middle.result (omega arith)
      c.index-compositions-middle.is (sym c.is_before.ensures ∙ c.if-is_before.true),
  c.loop-low.invariant.3,
)
