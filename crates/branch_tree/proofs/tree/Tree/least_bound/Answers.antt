use Rattle.std.proofs.Common.{◌+◌, ◌∙◌, sym, ap, subst, take, arith}
use Rattle.branch_tree.specs.LeastBounds.{least_of}
use Rattle.branch_tree.specs.Trees.{IsLeastOf, bounds_of}
use Rattle.branch_tree.proofs.Least.{least_at}
use Rattle.branch_tree.proofs.tree.Tree.least_bound.Goals as goal

pub loop-number-preserved : goal.loop-number-preserved
loop-number-preserved c =
    let nodes = c.args.self.now in
    subst (IsLeastOf (bounds_of (take (c.loop-number.number + 1) nodes)))
    (ap (least_of c.loop-number.least) (sym c.bound.ensures) ∙ sym c.least_of-least.ensures)
    (least_at nodes c.loop-number.number c.node.result.now c.loop-number.least (omega arith) c.node.ensures.value
    c.loop-number.invariant)
