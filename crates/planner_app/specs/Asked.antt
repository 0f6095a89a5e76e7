-- What words ask for.
use Rattle.std.specs.Prelude.{ℕ, ◌≡◌, ◌≤◌, List, Option, Some, None, ⊤}
use Rattle.rail_base.specs.declared.limits.TheConstants.{MAX_BRANCHINGS, MAX_ROUNDS}
use Rattle.trial_day.specs.Trial.{IsTrialSize}
use Rattle.commands.specs.declared.command.Command.{Command}
use Rattle.commands.specs.declared.command.Command.TheVariants as command
use Rattle.commands.specs.PlainForm.{IsPlainForm}
use Rattle.planner_app.specs.declared.reports.ReportKind.{ReportKind}
use Rattle.planner_app.specs.declared.reports.ReportKind.TheVariants as report

-- ---- the commands

-- to plan the day of a folder, to run the plan of a folder, to check the answer of a folder, to report on its plan, or
-- to plan a trial day
abbrev pub AskToPlan : List (List ℕ) → List ℕ → ℕ → ℕ → Type 0
AskToPlan words dir nodes rounds = IsPlainForm words (command.Plan dir nodes rounds)

abbrev pub AskToSimulate : List (List ℕ) → List ℕ → Type 0
AskToSimulate words dir = IsPlainForm words (command.Simulate dir)

abbrev pub AskToCheck : List (List ℕ) → List ℕ → Type 0
AskToCheck words dir = IsPlainForm words (command.Check dir)

-- the command of a report on the answer of a folder
abbrev pub command_for : ReportKind → List ℕ → Command
command_for report.Duties dir = command.Duties dir
command_for report.Yards dir = command.Yards dir
command_for report.Costs dir = command.Costs dir

abbrev pub AskToReport : List (List ℕ) → ReportKind → List ℕ → Type 0
AskToReport words kind dir = IsPlainForm words (command_for kind dir)

abbrev pub AskToTry : List (List ℕ) → ℕ → ℕ → ℕ → ℕ → Type 0
AskToTry words seed trips nodes rounds = IsPlainForm words (command.Trial seed trips nodes rounds)

-- the words are the plain form of no command
abbrev pub AskInVain : List (List ℕ) → Type 0
AskInVain words = (asked : Command) → ¬ IsPlainForm words asked

-- ---- what a command grants to a search

-- a command grants so many branchings and so many rounds to the search for a plan
abbrev pub HasGrant : Command → ℕ → ℕ → Type 0
HasGrant (command.Plan dir n k) nodes rounds = (n ≡ nodes) × (k ≡ rounds)
HasGrant (command.Trial seed trips n k) nodes rounds = (n ≡ nodes) × (k ≡ rounds)
HasGrant other nodes rounds = ⊥

-- and so do the words that ask for it
pub record Grants (words : List (List ℕ)) (nodes rounds : ℕ) : Type 0 where
  pub named : Command
  pub asked : IsPlainForm words named
  pub granted : HasGrant named nodes rounds

-- ---- the folder that a command works on

abbrev pub folder_of : Command → Option (List ℕ)
folder_of (command.Plan dir nodes rounds) = Some dir
folder_of (command.Simulate dir) = Some dir
folder_of (command.Check dir) = Some dir
folder_of (command.Duties dir) = Some dir
folder_of (command.Yards dir) = Some dir
folder_of (command.Costs dir) = Some dir
folder_of (command.Trial seed trips nodes rounds) = None

-- the words ask for no command on a folder
abbrev pub AskForNoFolder : List (List ℕ) → Type 0
AskForNoFolder words = (named : Command) → IsPlainForm words named → folder_of named ≡ None

-- ---- the limits of its numbers

-- a command grants no more than may be granted, and a trial day has as many trips as one may have
abbrev pub IsWithinLimits : Command → Type 0
IsWithinLimits (command.Plan dir nodes rounds) = (nodes ≤ MAX_BRANCHINGS) × (rounds ≤ MAX_ROUNDS)
IsWithinLimits (command.Trial seed trips nodes rounds) =
    IsTrialSize trips × (nodes ≤ MAX_BRANCHINGS) × (rounds ≤ MAX_ROUNDS)
IsWithinLimits other = ⊤
