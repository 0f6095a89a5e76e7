-- The answer that is read of a folder, and what a day or an answer that is not read comes to.
use Rattle.std.specs.Prelude.{ℕ, ◌≡◌, ◌≢◌, List, Some, Ok}
use Rattle.rail_base.specs.declared.limits.TheConstants.{MAX_NODES}
use Rattle.rail_csv.specs.declared.rows.Table.TheVariants as table
use Rattle.rail_io.specs.Folders.{Files, FolderState}
use Rattle.timetable.specs.Day.{Day}
use Rattle.day_files.specs.declared.errors.ReadError.{ReadError}
use Rattle.day_files.specs.Inputs.{day_in}
use Rattle.answer_text.specs.declared.answer.Answer.{Answer}
use Rattle.answer_text.specs.Limits.{IsAnswerWithin}
use Rattle.run_documents.specs.declared.answer_file.AnswerError.{AnswerError}
use Rattle.run_documents.specs.declared.outcome.Outcome.{Outcome}
use Rattle.run_documents.specs.declared.outcome.Outcome.TheVariants.{NoAnswer, NoMemory}
use Rattle.run_documents.specs.AnswerFiles.{IsAnswerCaused, IsAnswerOf, IsWrongAnswer, answer_bytes}
use Rattle.run_documents.specs.Errors.{outcome_of_error}
use Rattle.run_documents.specs.Readings.{IsReadDay, IsReadError}

-- the files of a folder are accepted as this day and this answer
pub record AreAnswered (files : Files) (dir : List ℕ) (day : Day) (answer : Answer) : Type 0 where
  pub of_tables : day_in files dir ≡ Ok day
  pub of_file : IsAnswerOf (answer_bytes files dir) answer

-- A day that tables make and an answer within the limits of a document were read: where the folder tells what it holds,
-- those of its files.
pub record IsReadAnswer (dir : List ℕ) (before : FolderState) (day : Day) (answer : Answer) : Type 0 where
  pub of_day : IsReadDay dir before day
  pub within : IsAnswerWithin MAX_NODES answer
  pub told : (files : Files) → before.holds ≡ Some files → IsAnswerOf (answer_bytes files dir) answer

-- ---- what is not read

module _ (dir : List ℕ) where
  -- The reading of an answer came to an error, from the folder before to the same folder after. Where the folder
  -- tells what it holds, that is wrong with the file; and the error has its cause, whatever the folder tells.
  pub record IsAnswerError (before after : FolderState) (error : AnswerError) : Type 0 where
    pub told : (files : Files) → before.holds ≡ Some files → IsWrongAnswer files dir error
    pub caused : IsAnswerCaused dir before after error

  -- No day was read, for an error of its tables, and that came to this.
  pub record IsUnreadDay (before after : FolderState) (outcome : Outcome) : Type 0 where
    pub error : ReadError
    pub of_tables : IsReadError {Y = Day} (λ read. read ≢ table.Plan) (λ files. day_in files dir) dir before after error
    pub is : outcome ≡ outcome_of_error error

  -- No day or no answer to it was read, for an error of its tables or of the file of the answer, or since memory ran
  -- out; and that came to this.
  pub data IsUnanswered (before after : FolderState) (outcome : Outcome) : Type 0 where
    NoDay : IsUnreadDay before after outcome → IsUnanswered before after outcome
    NoneRead : (day : Day) → IsReadDay dir before day → (error : AnswerError) → IsAnswerError before after error
        → outcome ≡ NoAnswer error → IsUnanswered before after outcome
    NoMemoryToRead : outcome ≡ NoMemory → IsUnanswered before after outcome
