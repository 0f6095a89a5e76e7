use Rattle.std.proofs.Common.{refl}
use Rattle.price_bound.proofs.SmallValues.{changed_slacks_are_small, changed_values_are_small, slacks_are_small, values_are_small}
use Rattle.price_bound.proofs.laws.values_are_small.Goals as goal

pub returns : goal.returns
returns c = record {
  slacks = slacks_are_small;
  values = values_are_small;
  changed_slacks = changed_slacks_are_small;
  changed_values = changed_values_are_small;
  limits = record { slack = refl; value = refl };
}
