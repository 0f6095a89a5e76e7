-- What the planning of a day comes to.
use Rattle.std.specs.Prelude.{ℕ, ◌≡◌, ◌≢◌, ⊤}
use Rattle.rail_csv.specs.declared.rows.Table.TheVariants as table
use Rattle.rail_io.specs.Folders.{FolderState}
use Rattle.timetable.specs.Day.{Day}
use Rattle.day_files.specs.declared.errors.ReadError.{ReadError}
use Rattle.day_files.specs.Inputs.{day_in}
use Rattle.answer_check.specs.Headline.{IsHeadline}
use Rattle.run_documents.specs.Readings.{IsReadDay, IsReadError}
use Rattle.desk_commands.specs.declared.planning.Planning.{Planning}
use Rattle.desk_app.specs.declared.outcome.DeskOutcome.{DeskOutcome}
use Rattle.desk_app.specs.declared.outcome.DeskOutcome.TheVariants.{Planned, NoMemory}
use Rattle.desk_app.specs.ReadErrors.{outcome_of_error}

-- a day was planned: its answer meets the headline; or memory ran out
abbrev pub IsDayOutcome : Day → ℕ → DeskOutcome → Type 0
IsDayOutcome day nodes (Planned answer) = IsHeadline day nodes answer
IsDayOutcome day nodes NoMemory = ⊤
IsDayOutcome day nodes other = ⊥

-- The day of a folder was planned so, from the folder before to the same folder after, and came to this: there is no
-- day, for an error of its tables; or the day was read and planned.
pub data IsPlanOutcome (planning : Planning) (before after : FolderState) (outcome : DeskOutcome) : Type 0 where
  NoDay : (error : ReadError) → IsReadError {Y = Day} (λ read. read ≢ table.Plan)
      (λ files. day_in files planning.dir) planning.dir before after error
      → outcome ≡ outcome_of_error error → IsPlanOutcome planning before after outcome
  OfDay : (day : Day) → IsReadDay planning.dir before day → IsDayOutcome day planning.nodes outcome
      → IsPlanOutcome planning before after outcome
