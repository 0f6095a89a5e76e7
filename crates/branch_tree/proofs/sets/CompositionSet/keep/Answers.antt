use Rattle.std.proofs.Common.{arith}
use Rattle.branch_tree.specs.Cuts.{is_on}
use Rattle.branch_tree.proofs.Members.{is_kept}
use Rattle.branch_tree.proofs.sets.CompositionSet.keep.Goals as goal

pub returns : goal.returns
returns c = is_kept (is_on c.args.catalogue.now c.args.cut.now c.args.side) c.args.self.now c.loop-comp.self c.loop-comp.invariant.same_length
    (λ comp below. c.loop-comp.invariant.kept comp (omega (arith, below)))
