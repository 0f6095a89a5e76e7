use Rattle.answer_text.proofs.Texts.{bytes_are_texts_or_refused, refusals_are_one}
use Rattle.answer_text.proofs.laws.other_bytes_are_refused.Goals as goal

pub returns : goal.returns
returns c = record { total = bytes_are_texts_or_refused; one = refusals_are_one }
