-- An answer that meets the headline is read again from its text, and is valid.
use Rattle.std.proofs.Common.{◌≡◌, ◌≤◌, ℕ, List, length, sym, subst}
use Rattle.rail_base.specs.declared.limits.TheConstants.{MAX_FILE_BYTES}
use Rattle.timetable.specs.Day.{Day}
use Rattle.answer_text.specs.declared.answer.Answer.{Answer}
use Rattle.answer_text.specs.Grammar.{IsText}
use Rattle.answer_text.specs.Texts.{text_of}
use Rattle.answer_text.proofs.Sizes.{texts_fit_files}
use Rattle.answer_text.proofs.Texts.{texts_are_not_refused, texts_are_of_one_answer}
use Rattle.answer_check.specs.Headline.{IsHeadline}
use Rattle.run_documents.specs.AnswerFiles.{IsAnswerOf, answer_bytes}
use Rattle.planner_app.specs.Laws.{HeadlinesAreReported, HeadlinesAreValid}

-- bytes that are the text of an answer that meets the headline are read as that answer
pub is_answer_of : (day : Day) (granted : ℕ) (answer : Answer) (bytes : List ℕ) → bytes ≡ text_of answer
    → IsHeadline day granted answer → IsAnswerOf bytes answer
is_answer_of day granted answer bytes is headline =
    let text : IsText bytes answer = record { within = headline.tree.within; text = is } in
    record {
      few = subst (λ (t : List ℕ). length t ≤ MAX_FILE_BYTES) (sym is)
          (texts_fit_files answer headline.tree.within headline.tree.valid.proved.whole.0);
      text = text;
      only = λ other. texts_are_of_one_answer bytes answer other text;
      right = λ refusal. texts_are_not_refused bytes answer refusal text;
    }

pub headlines_are_valid : HeadlinesAreValid
headlines_are_valid files dir day granted answer status before after accepted is headline ends =
    let is_read = is_answer_of day granted answer (answer_bytes files dir) is headline in
    ends.valid.1 (day, answer, record { of_tables = accepted; of_file = is_read }, headline.tree.valid)

pub headlines_are_reported : HeadlinesAreReported
headlines_are_reported files dir day granted answer kind status before after accepted is headline planned ends =
    let is_read = is_answer_of day granted answer (answer_bytes files dir) is headline in
    ends.reported.1 (day, answer, record { of_tables = accepted; of_file = is_read }, headline.tree.valid, planned)
