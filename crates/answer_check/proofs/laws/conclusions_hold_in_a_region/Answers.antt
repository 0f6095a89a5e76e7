use Rattle.answer_check.proofs.RegionTruths.{concluded_is_true_in, true_in_roots}
use Rattle.answer_check.proofs.laws.conclusions_hold_in_a_region.Goals as goal

pub returns : goal.returns
returns c = record { law = concluded_is_true_in; of_day = true_in_roots }
