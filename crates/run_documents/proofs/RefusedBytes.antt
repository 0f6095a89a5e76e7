-- Where bytes are read as no answer, they are refused for what is told, unless memory ran out.
use Rattle.std.proofs.Common.{◌≡◌, ◌≢◌, ◌≤◌, ℕ, List, length, Result, Ok, Err, refl}
use Rattle.rail_base.specs.declared.limits.TheConstants.{MAX_FILE_BYTES}
use Rattle.rail_base.specs.Answers.{Gives, Unless}
use Rattle.answer_text.specs.declared.answer.Answer.{Answer}
use Rattle.answer_text.specs.declared.refusal.AnswerRefusal.{AnswerRefusal}
use Rattle.answer_text.specs.declared.refusal.AnswerRefusal.TheVariants.{BadLine, MissingEnd, Trailing, TooManyNodes}
use Rattle.answer_text.specs.declared.refusal.AnswerRefusal.TheVariants.{NoMemory}
use Rattle.answer_text.specs.Grammar.{IsAnswerRefusal, IsText, is_memory}
use Rattle.run_documents.specs.AnswerFiles.{AreNoAnswer}

module _ (bytes : List ℕ) (few : length bytes ≤ MAX_FILE_BYTES) where
  -- no answer has these bytes as its text, unless memory ran out
  abbrev NoText : AnswerRefusal → Type 0
  NoText refusal = (answer : Answer) → IsText bytes answer → Gives {X = Answer} is_memory (Err refusal) (Ok answer)

  apart : (answer : Answer) (refusal : AnswerRefusal) → ◌≡◌ {A = Result Answer AnswerRefusal} (Ok answer) (Err refusal) → ⊥
  apart answer refusal e = absurd cc

  pub are_refused : (refusal : AnswerRefusal) → refusal ≢ NoMemory → Unless (is_memory refusal) (IsAnswerRefusal bytes refusal)
      → NoText refusal → AreNoAnswer bytes refusal
  are_refused (BadLine line) not refused other =
      record { few = few; refused = refused; none = λ answer is. apart answer (BadLine line) (other answer is) }
  are_refused MissingEnd not refused other =
      record { few = few; refused = refused; none = λ answer is. apart answer MissingEnd (other answer is) }
  are_refused (Trailing line) not refused other =
      record { few = few; refused = refused; none = λ answer is. apart answer (Trailing line) (other answer is) }
  are_refused TooManyNodes not refused other =
      record { few = few; refused = refused; none = λ answer is. apart answer TooManyNodes (other answer is) }
  are_refused NoMemory not refused other = absurd (not refl)
