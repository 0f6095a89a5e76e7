use Rattle.answer_text.proofs.Texts.{texts_are_not_refused, texts_are_of_one_answer}
use Rattle.answer_text.proofs.laws.texts_are_of_one_answer.Goals as goal

pub returns : goal.returns
returns c = record { one = texts_are_of_one_answer; right = texts_are_not_refused }
