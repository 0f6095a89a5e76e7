-- What was read of a folder, or the error that its tables came to, by whichever program.
use Rattle.std.specs.Prelude.{ℕ, ◌≡◌, List, Some, Result, Ok, Err}
use Rattle.rail_csv.specs.declared.rows.Table.{Table}
use Rattle.rail_io.specs.Folders.{Files, FolderState}
use Rattle.timetable.specs.Day.{Day}
use Rattle.day_files.specs.declared.errors.Refusal.{Refusal}
use Rattle.day_files.specs.declared.errors.ReadError.{ReadError}
use Rattle.day_files.specs.declared.inputs.Inputs.{Inputs}
use Rattle.day_files.specs.Answers.{IsCaused, IsErrorOf, Reads}
use Rattle.day_files.specs.Inputs.{day_in, inputs_in}
use Rattle.day_files.specs.Order.{Reaches}
use Rattle.day_files.specs.Tables.{IsMadeDay, IsMadePlan}

-- The reading of these tables of a folder, from the folder before to the same folder after, came to an error. Where the
-- folder tells what it holds, the error is what is said of the files; and it is one of these tables and has its cause,
-- whatever the folder tells.
pub record IsReadError {Y : Type 0} (AreRead : Table → Type 0) (said : Files → Result Y Refusal) (dir : List ℕ)
    (before after : FolderState) (error : ReadError) : Type 0 where
  pub told : (files : Files) → before.holds ≡ Some files → Reads {Y = Y} (Reaches files dir) (Err error) (said files)
  pub says : IsErrorOf AreRead error
  pub caused : IsCaused dir before after error

-- a day that tables make was read: where the folder tells what it holds, the one that its tables make
pub record IsReadDay (dir : List ℕ) (before : FolderState) (day : Day) : Type 0 where
  pub made : IsMadeDay day
  pub told : (files : Files) → before.holds ≡ Some files → day_in files dir ≡ Ok day

-- a day and a plan of it were read, likewise
pub record AreReadInputs (dir : List ℕ) (before : FolderState) (inputs : Inputs) : Type 0 where
  pub made : IsMadeDay inputs.instance
  pub made_plan : IsMadePlan inputs.instance inputs.plan
  pub told : (files : Files) → before.holds ≡ Some files → inputs_in files dir ≡ Ok inputs
