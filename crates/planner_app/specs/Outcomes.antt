-- What a run comes to, by its words and the files in the folder that they name.
use Rattle.std.specs.Prelude.{ℕ, ◌≡◌, List, ⊤}
use Rattle.rail_io.specs.Folders.{FolderState}
use Rattle.timetable.specs.Day.{Day}
use Rattle.day_files.specs.declared.errors.ReadError.{ReadError}
use Rattle.day_files.specs.declared.inputs.Inputs.{Inputs}
use Rattle.day_files.specs.Inputs.{inputs_in}
use Rattle.answer_text.specs.declared.answer.Answer.{Answer}
use Rattle.commands.specs.declared.command.Command.{Command}
use Rattle.commands.specs.declared.command.Command.TheVariants as command
use Rattle.commands.specs.PlainForm.{IsPlainForm}
use Rattle.run_documents.specs.declared.outcome.Outcome.{Outcome}
use Rattle.run_documents.specs.declared.outcome.Outcome.TheVariants.{Usage, NoMemory}
use Rattle.run_documents.specs.Errors.{outcome_of_error}
use Rattle.run_documents.specs.Readings.{AreReadInputs, IsReadDay, IsReadError}
use Rattle.planner_app.specs.declared.reports.ReportKind.{ReportKind}
use Rattle.planner_app.specs.declared.reports.ReportKind.TheVariants as report
use Rattle.planner_app.specs.Asked.{AskInVain}
use Rattle.planner_app.specs.DayOutcomes.{IsCheckOutcome, IsPlanOutcome, IsReportOutcome, IsRunOutcome, IsTrialOutcome}
use Rattle.planner_app.specs.Readings.{IsReadAnswer, IsUnanswered, IsUnreadDay}

-- ---- what a command comes to, from the folder before it to the same folder after it

module _ (dir : List ℕ) where
  -- no day was read; or one was, and its planning came to this
  pub data IsDayPlanned (nodes : ℕ) (before after : FolderState) (outcome : Outcome) : Type 0 where
    NoDay : IsUnreadDay dir before after outcome → IsDayPlanned nodes before after outcome
    OfDay : (day : Day) → IsReadDay dir before day → IsPlanOutcome day nodes outcome
        → IsDayPlanned nodes before after outcome

  -- no day and plan of it were read, for an error of their tables; or they were, and the run came to this
  pub data IsPlanRun (before after : FolderState) (outcome : Outcome) : Type 0 where
    NoInputs : (error : ReadError) → IsReadError {Y = Inputs} (λ _. ⊤) (λ files. inputs_in files dir) dir before after
        error → outcome ≡ outcome_of_error error → IsPlanRun before after outcome
    OfInputs : (inputs : Inputs) → AreReadInputs dir before inputs → IsRunOutcome inputs outcome
        → IsPlanRun before after outcome

  -- no day and answer to it were read; or they were, and this came of them
  pub data IsOfAnswer (Comes : Day → Answer → Type 0) (before after : FolderState) (outcome : Outcome) : Type 0 where
    NoAnswer : IsUnanswered dir before after outcome → IsOfAnswer Comes before after outcome
    OfAnswer : (day : Day) (answer : Answer) → IsReadAnswer dir before day answer → Comes day answer
        → IsOfAnswer Comes before after outcome

  -- a check of the answer, or a report on its plan
  abbrev pub IsAnswerChecked : FolderState → FolderState → Outcome → Type 0
  IsAnswerChecked before after outcome =
      IsOfAnswer (λ day answer. IsCheckOutcome day answer outcome) before after outcome

  abbrev pub IsAnswerReported : ReportKind → FolderState → FolderState → Outcome → Type 0
  IsAnswerReported kind before after outcome =
      IsOfAnswer (λ day answer. IsReportOutcome kind day answer outcome) before after outcome

-- this command came to this
abbrev pub ComesTo : Command → FolderState → FolderState → Outcome → Type 0
ComesTo (command.Plan dir nodes rounds) before after outcome = IsDayPlanned dir nodes before after outcome
ComesTo (command.Simulate dir) before after outcome = IsPlanRun dir before after outcome
ComesTo (command.Check dir) before after outcome = IsAnswerChecked dir before after outcome
ComesTo (command.Duties dir) before after outcome = IsAnswerReported dir report.Duties before after outcome
ComesTo (command.Yards dir) before after outcome = IsAnswerReported dir report.Yards before after outcome
ComesTo (command.Costs dir) before after outcome = IsAnswerReported dir report.Costs before after outcome
ComesTo (command.Trial seed trips nodes rounds) before after outcome = IsTrialOutcome seed trips nodes outcome

-- ---- what a run comes to

-- A run of these words comes to this: their command came to it; or they ask for no command, and are not understood; or
-- memory ran out before they were read.
pub data IsOutcome (words : List (List ℕ)) (before after : FolderState) (outcome : Outcome) : Type 0 where
  OfCommand : (named : Command) → IsPlainForm words named → ComesTo named before after outcome
      → IsOutcome words before after outcome
  InVain : AskInVain words → outcome ≡ Usage → IsOutcome words before after outcome
  Unread : outcome ≡ NoMemory → IsOutcome words before after outcome
