use Rattle.answer_check.proofs.Renumbered.{renumbered_is_true}
use Rattle.answer_check.proofs.laws.truths_are_renumbered.Goals as goal

pub returns : goal.returns
returns c = record { law = renumbered_is_true }
