use Rattle.answer_check.proofs.OneVerdict.{answer_verdicts_are_one}
use Rattle.answer_check.proofs.laws.answer_verdicts_are_one.Goals as goal

pub returns : goal.returns
returns c = record { law = answer_verdicts_are_one }
