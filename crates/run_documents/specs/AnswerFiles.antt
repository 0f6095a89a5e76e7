-- The answer of a folder, or what is wrong with its file.
use Rattle.std.specs.Prelude.{ℕ, ◌≡◌, ◌<◌, ◌≤◌, List, length, codes, Bool, true, false, IsTrue, Result, ⊤, Ok, Err}
use Rattle.rail_base.specs.declared.limits.TheConstants.{MAX_FILE_BYTES}
use Rattle.rail_io.specs.Folders.{Files, FolderState, Rose, RosePast, file_at}
use Rattle.day_files.specs.OneFile.{path_in}
use Rattle.answer_text.specs.declared.answer.Answer.{Answer}
use Rattle.answer_text.specs.declared.refusal.AnswerRefusal.{AnswerRefusal}
use Rattle.answer_text.specs.Grammar.{IsAnswerRefusal, IsText}
use Rattle.run_documents.specs.declared.answer_file.AnswerError.{AnswerError}
use Rattle.run_documents.specs.declared.answer_file.AnswerError.TheVariants.{CannotRead, TooLong, Refused}

-- the name of the answer's file, without the folder
abbrev pub answer_file : List ℕ
answer_file = codes "answer.txt"

-- the path of the answer in a folder
abbrev pub answer_path : List ℕ → List ℕ
answer_path dir = path_in dir answer_file

-- the bytes of the answer's file
abbrev pub answer_bytes : Files → List ℕ → List ℕ
answer_bytes files dir = file_at files (answer_path dir)

-- the bytes are not too many, and are the text of this answer and of no other
pub record IsAnswerOf (bytes : List ℕ) (answer : Answer) : Type 0 where
  pub few : length bytes ≤ MAX_FILE_BYTES
  pub text : IsText bytes answer
  pub only : (other : Answer) → IsText bytes other → answer ≡ other
  pub right : (refusal : AnswerRefusal) → ¬ IsAnswerRefusal bytes refusal

-- the bytes are not too many, are refused for this, and are the text of no answer
pub record AreNoAnswer (bytes : List ℕ) (refusal : AnswerRefusal) : Type 0 where
  pub few : length bytes ≤ MAX_FILE_BYTES
  pub refused : IsAnswerRefusal bytes refusal
  pub none : (answer : Answer) → ¬ IsText bytes answer

-- what is wrong with the file; that it could not be read says nothing of it
abbrev pub IsWrongAnswer : Files → List ℕ → AnswerError → Type 0
IsWrongAnswer files dir CannotRead = ⊤
IsWrongAnswer files dir TooLong = MAX_FILE_BYTES < length (answer_bytes files dir)
IsWrongAnswer files dir (Refused refusal) = AreNoAnswer (answer_bytes files dir) refusal

-- the file is that of this answer, or it is wrong
abbrev pub ReadsAnswer : Files → List ℕ → Result Answer AnswerError → Type 0
ReadsAnswer files dir (Ok answer) = IsAnswerOf (answer_bytes files dir) answer
ReadsAnswer files dir (Err error) = IsWrongAnswer files dir error

-- whether an error is that the answer's file could not be read
abbrev pub is_unread : AnswerError → Bool
is_unread CannotRead = true
is_unread TooLong = false
is_unread (Refused refusal) = false

-- What an error says whatever the folder tells: the file could not be read only where the count of faults rose and a
-- read of it may fail; it was too long only where more bytes were taken than an answer may have, or the count of them
-- was at 2^63; and for any other refusal there are bytes that are refused for it.
abbrev pub IsAnswerCaused : List ℕ → FolderState → FolderState → AnswerError → Type 0
IsAnswerCaused dir before after CannotRead =
    Rose before.faults after.faults × IsTrue (before.may_fail (answer_path dir))
IsAnswerCaused dir before after TooLong = RosePast MAX_FILE_BYTES before.taken after.taken
IsAnswerCaused dir before after (Refused refusal) = (bytes : List ℕ) × AreNoAnswer bytes refusal
