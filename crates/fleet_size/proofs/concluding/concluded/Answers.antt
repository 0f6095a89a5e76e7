use Rattle.std.proofs.Common.{◌∙◌, List, refl, subst}
use Rattle.branch_tree.specs.Trees.{IsLeastOf}
use Rattle.fleet_size.specs.declared.slots.Slot.{Slot}
use Rattle.fleet_size.specs.Values.{values_at}
use Rattle.fleet_size.proofs.concluding.concluded.Goals as goal

pub returns : goal.returns
returns c = record {
  boxes = c.of.ensures ∙ c.in_ok-nodes.ensures;
  splits = refl;
  chosen = c.chosen_of.ensures;
  least = c.least_value-least.result;
  is_least = subst (λ (slots : List Slot). IsLeastOf (values_at c.args.prices.now slots) c.least_value-least.result) c.deref.ensures.value c.least_value-least.ensures;
  head = c.head_of-head.ensures;
}
