-- The text of an answer is of it alone, and is refused for nothing; other bytes are refused for one thing.
use Rattle.std.proofs.Common.{◌≡◌, ◌∙◌, ◌⊎◌, inl, inr, Result, Ok, Err, sym}
use Rattle.answer_text.specs.declared.answer.Answer.{Answer}
use Rattle.answer_text.specs.declared.refusal.AnswerRefusal.{AnswerRefusal}
use Rattle.answer_text.specs.Grammar.{IsAnswerRefusal, IsText}
use Rattle.answer_text.specs.Laws.{BytesAreTextsOrRefused, RefusalsAreOne, TextsAreNotRefused, TextsAreOfOneAnswer}
use Rattle.answer_text.specs.Pieces.{pieces}
use Rattle.answer_text.specs.ReadStates.{at_title, reading}
use Rattle.answer_text.proofs.Exact.{exact}
use Rattle.answer_text.proofs.Ruling.{Rules, again, all_rules}

one_found : (one other : Answer) → ◌≡◌ {A = Result Answer AnswerRefusal} (Ok one) (Ok other) → one ≡ other
one_found one other e = cc

never_both : (answer : Answer) (refusal : AnswerRefusal)
    → ◌≡◌ {A = Result Answer AnswerRefusal} (Ok answer) (Err refusal) → ⊥
never_both answer refusal e = absurd cc

pub texts_are_of_one_answer : TextsAreOfOneAnswer
texts_are_of_one_answer bytes one other first second =
    one_found one other (sym (again bytes one first) ∙ again bytes other second)

pub texts_are_not_refused : TextsAreNotRefused
texts_are_not_refused bytes answer refusal is refused =
    never_both answer refusal (sym (again bytes answer is) ∙ exact bytes refusal refused)

one_cause : (one other : AnswerRefusal) → ◌≡◌ {A = Result Answer AnswerRefusal} (Err one) (Err other) → one ≡ other
one_cause one other e = cc

pub refusals_are_one : RefusalsAreOne
refusals_are_one bytes one other first second =
    one_cause one other (sym (exact bytes one first) ∙ exact bytes other second)

pub bytes_are_texts_or_refused : BytesAreTextsOrRefused
bytes_are_texts_or_refused bytes = by (reading at_title (pieces 10 bytes)) (all_rules bytes)
  where
    by : (found : Result Answer AnswerRefusal) → Rules bytes found
        → ((answer : Answer) × IsText bytes answer) ⊎ ((refusal : AnswerRefusal) × IsAnswerRefusal bytes refusal)
    by (Ok answer) is = inl (answer, is)
    by (Err refusal) refused = inr (refusal, refused)
