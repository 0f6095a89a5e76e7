use Rattle.answer_check.proofs.Refuting.{only_valid}
use Rattle.answer_check.proofs.laws.valid_answers_are_found.Goals as goal

pub returns : goal.returns
returns c = record { law = only_valid }
