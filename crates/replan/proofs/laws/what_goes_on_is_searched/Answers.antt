use Rattle.replan.proofs.GoingOn.{going_on_lies_in_root}
use Rattle.replan.proofs.Prices.{prices_are_changed_costs}
use Rattle.replan.proofs.laws.what_goes_on_is_searched.Goals as goal

pub returns : goal.returns
returns c = record { inside = going_on_lies_in_root; price = prices_are_changed_costs }
