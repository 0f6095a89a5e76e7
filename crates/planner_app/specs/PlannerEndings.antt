-- How a run of the planner ends, command by command: the status, and what was written.
use Rattle.std.specs.Prelude.{ℕ, ◌≡◌, List, Option, Some}
use Rattle.rail_io.specs.Folders.{Files}
use Rattle.statuses.specs.Endings.{EndsInUsage}
use Rattle.run_documents.specs.Lines.{refused_line, usage_text}
use Rattle.run_documents.specs.Planning.{EndsPlanning}
use Rattle.planner_app.specs.declared.reports.ReportKind.{ReportKind}
use Rattle.planner_app.specs.Asked.{AskInVain, AskToCheck, AskToPlan, AskToReport, AskToSimulate, AskToTry}
use Rattle.planner_app.specs.Statuses.{EndsCheck, EndsReport, EndsSimulation, EndsTrial}

-- The status with which a run of these words ends, and what was written, where the status is none of 5, 6 and 7. What a
-- command says of files it says of those that the folder told it holds.
pub record EndsByCommand (told : Option Files) (words : List (List ℕ)) (status : ℕ) (before after : Option (List ℕ))
    : Type 0 where
  -- a day is planned: the headline
  pub plan : (files : Files) (dir : List ℕ) (nodes rounds : ℕ) → told ≡ Some files → AskToPlan words dir nodes rounds
      → EndsPlanning refused_line files dir nodes status before after
  -- a plan is run
  pub simulate : (files : Files) (dir : List ℕ) → told ≡ Some files → AskToSimulate words dir
      → EndsSimulation files dir status before after
  -- an answer is checked
  pub check : (files : Files) (dir : List ℕ) → told ≡ Some files → AskToCheck words dir
      → EndsCheck files dir status before after
  -- an answer is checked, and its plan reported on
  pub report : (files : Files) (dir : List ℕ) (kind : ReportKind) → told ≡ Some files → AskToReport words kind dir
      → EndsReport files dir kind status before after
  -- the day of a seed is planned
  pub trial : (seed trips nodes rounds : ℕ) → AskToTry words seed trips nodes rounds
      → EndsTrial seed trips nodes status before after
  -- the words may be no command
  pub usage : EndsInUsage (AskInVain words) usage_text status before after
