use Rattle.std.proofs.Common.{◌∷◌, [], ◌++◌, List, ℤ, length, sym, subst}
use Rattle.std.proofs.lemmas.List.{append-nil}
use Rattle.branch_tree.specs.Trees.{IsLeastOf}
use Rattle.fleet_boxes.specs.declared.nodes.BoxNode.{BoxNode}
use Rattle.fleet_boxes.specs.ProvedBoxes.{values_in}
use Rattle.fleet_check.proofs.leaves.with_node.Goals as goal

pub returns-in-Bound-clause-least : goal.returns-in-Bound-clause-least
returns-in-Bound-clause-least c values is =
    subst (λ (node : BoxNode). IsLeastOf (values ++ values_in (length c.args.instance.now.types) c.args.prices.now (c.args.fleets.now ∷ []) (node ∷ [])) c.lesser.result) (sym c.in-Bound.is)
    (subst (λ (value : ℤ). IsLeastOf (values ++ value ∷ []) c.lesser.result) c.value_of.ensures (c.lesser.ensures values is))

pub returns-in-Nothing-clause-least : goal.returns-in-Nothing-clause-least
returns-in-Nothing-clause-least c values is =
    subst (λ (node : BoxNode). IsLeastOf (values ++ values_in (length c.args.instance.now.types) c.args.prices.now (c.args.fleets.now ∷ []) (node ∷ [])) c.args.leaves.least) (sym c.in-Nothing.is)
    (subst (λ (vs : List ℤ). IsLeastOf vs c.args.leaves.least) (sym (append-nil values)) is)
