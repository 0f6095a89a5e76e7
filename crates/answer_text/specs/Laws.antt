-- What holds of the text of every answer.
use Rattle.std.specs.Prelude.{ℕ, ◌≡◌, ◌≤◌, ◌⊎◌, List, length}
use Rattle.rail_base.specs.declared.limits.TheConstants.{MAX_FILE_BYTES, MAX_NODES}
use Rattle.branch_tree.specs.Trees.{IsWhole}
use Rattle.answer_text.specs.declared.answer.Answer.{Answer}
use Rattle.answer_text.specs.declared.refusal.AnswerRefusal.{AnswerRefusal}
use Rattle.answer_text.specs.Grammar.{IsAnswerRefusal, IsText}
use Rattle.answer_text.specs.Limits.{IsAnswerWithin}
use Rattle.answer_text.specs.Texts.{text_of}

-- Bytes are the text of one answer within the limits at most.
abbrev pub TextsAreOfOneAnswer : Type 0
TextsAreOfOneAnswer = (bytes : List ℕ) (one other : Answer) → IsText bytes one → IsText bytes other → one ≡ other

-- The text of an answer within the limits is refused for nothing.
abbrev pub TextsAreNotRefused : Type 0
TextsAreNotRefused =
    (bytes : List ℕ) (answer : Answer) (refusal : AnswerRefusal) → IsText bytes answer → ¬ IsAnswerRefusal bytes refusal

-- Bytes are refused for one thing at most.
abbrev pub RefusalsAreOne : Type 0
RefusalsAreOne =
    (bytes : List ℕ) (one other : AnswerRefusal) → IsAnswerRefusal bytes one → IsAnswerRefusal bytes other → one ≡ other

-- All bytes are the text of an answer within the limits, or are refused for something.
abbrev pub BytesAreTextsOrRefused : Type 0
BytesAreTextsOrRefused = (bytes : List ℕ) →
    ((answer : Answer) × IsText bytes answer) ⊎ ((refusal : AnswerRefusal) × IsAnswerRefusal bytes refusal)

-- The text of an answer within the limits, whose tree is whole, is no longer than a file may be.
abbrev pub TextsFitFiles : Type 0
TextsFitFiles = (answer : Answer) → IsAnswerWithin MAX_NODES answer → IsWhole answer.tree →
    length (text_of answer) ≤ MAX_FILE_BYTES
