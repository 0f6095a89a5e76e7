-- What the planning of a week comes to.
use Rattle.std.specs.Prelude.{ℕ, ◌≡◌, List, length, All, Option, None, Some, ⊤}
use Rattle.rail_io.specs.Folders.{Files, FolderState}
use Rattle.timetable.specs.Day.{Day}
use Rattle.day_files.specs.declared.errors.ReadError.{ReadError}
use Rattle.day_files.specs.declared.errors.ReadError.TheVariants as read_error
use Rattle.day_files.specs.Tables.{IsMadeDay}
use Rattle.day_files.specs.Texts.{refusal_file}
use Rattle.week_files.specs.declared.error.DayError.{DayError}
use Rattle.week_files.specs.WeekFiles.{AreDaysIn, IsCausedAt, IsEndedAt, IsErrorAt}
use Rattle.week_units.specs.declared.refusal.WeekRefusal.{WeekRefusal}
use Rattle.week_units.specs.Weeks.{AreWeek, IsFirstFault}
use Rattle.week_plan.specs.WeekAnswers.{IsWeekAnswer}
use Rattle.desk_commands.specs.declared.week_planning.WeekPlanning.{WeekPlanning}
use Rattle.desk_app.specs.declared.files.DeskFile.{DeskFile}
use Rattle.desk_app.specs.declared.files.DeskFile.TheVariants.{OfDay}
use Rattle.desk_app.specs.declared.outcome.DeskOutcome.{DeskOutcome}
use Rattle.desk_app.specs.declared.outcome.DeskOutcome.TheVariants.{PlannedWeek, Refused, CannotRead, NoMemory}
use Rattle.desk_app.specs.WeekDays.{fault_file}

-- ---- what errors come to

-- an error of the tables of the day of this number
abbrev pub outcome_on_day : ℕ → ReadError → DeskOutcome
outcome_on_day day (read_error.Refused why) = Refused (OfDay day (refusal_file why))
outcome_on_day day (read_error.CannotRead read) = CannotRead (OfDay day read)
outcome_on_day day read_error.NoMemory = NoMemory

abbrev pub outcome_of_day_error : DayError → DeskOutcome
outcome_of_day_error error = outcome_on_day error.day error.error

-- a file that is refused, or want of memory where there is none
abbrev pub refused_if : Option DeskFile → DeskOutcome
refused_if (Some file) = Refused file
refused_if None = NoMemory

-- the reason why days make no week
abbrev pub outcome_of_fault : WeekRefusal → DeskOutcome
outcome_of_fault why = refused_if (fault_file why)

-- ---- what the planning comes to

-- the days make a week, which was planned; or they make none, and the file that tells the first reason is refused; or
-- memory ran out
abbrev pub IsDaysOutcome : List Day → ℕ → DeskOutcome → Type 0
IsDaysOutcome days nodes (PlannedWeek week) = AreWeek days × IsWeekAnswer days nodes week
IsDaysOutcome days nodes (Refused file) = (why : WeekRefusal) × IsFirstFault days why × (fault_file why ≡ Some file)
IsDaysOutcome days nodes NoMemory = ⊤
IsDaysOutcome days nodes other = ⊥

module _ (planning : WeekPlanning) where
  -- days that tables make were read: where the folder tells what it holds, those of its files
  pub record AreReadDays (before : FolderState) (days : List Day) : Type 0 where
    pub made : All IsMadeDay days
    pub count : length days ≡ planning.days
    pub told : (files : Files) → before.holds ≡ Some files → AreDaysIn files planning.dir planning.days days

  -- The reading of the days, from the folder before to the same folder after, came to an error. Where the folder tells
  -- what it holds, the error is what is said of the files; and it is one of these days and has its cause, whatever the
  -- folder tells.
  pub record IsWeekReadError (before after : FolderState) (error : DayError) : Type 0 where
    pub told : (files : Files) → before.holds ≡ Some files → IsEndedAt files planning.dir error
    pub says : IsErrorAt planning.days error
    pub caused : IsCausedAt planning.dir before after error

  -- The week of a folder was to be planned, from the folder before to the same folder after, and that came to this: a
  -- day was not read; or all were, and this came of them.
  pub data IsWeekOutcome (before after : FolderState) (outcome : DeskOutcome) : Type 0 where
    NoDays : (error : DayError) → IsWeekReadError before after error → outcome ≡ outcome_of_day_error error
        → IsWeekOutcome before after outcome
    OfDays : (days : List Day) → AreReadDays before days → IsDaysOutcome days planning.nodes outcome
        → IsWeekOutcome before after outcome
