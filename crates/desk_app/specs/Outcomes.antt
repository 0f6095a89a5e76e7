-- What a run comes to, by its words and the files in the folder that they name.
use Rattle.std.specs.Prelude.{ℕ, ◌≡◌, List, Bool, true, false}
use Rattle.rail_io.specs.Folders.{FolderState}
use Rattle.answer_check.specs.Headline.{status_said}
use Rattle.desk_commands.specs.declared.command.Command.{Command}
use Rattle.desk_commands.specs.declared.command.Command.TheVariants as command
use Rattle.desk_commands.specs.declared.fleet_planning.FleetPlanning.{FleetPlanning}
use Rattle.desk_commands.specs.declared.planning.Planning.{Planning}
use Rattle.desk_commands.specs.declared.replanning.Replanning.{Replanning}
use Rattle.desk_commands.specs.declared.swapping.Swapping.{Swapping}
use Rattle.desk_commands.specs.declared.week_planning.WeekPlanning.{WeekPlanning}
use Rattle.desk_commands.specs.PlainForm.{IsPlainForm}
use Rattle.desk_app.specs.declared.outcome.DeskOutcome.{DeskOutcome}
use Rattle.desk_app.specs.declared.outcome.DeskOutcome.TheVariants.{Planned, Swapped, Replanned, PlannedWeek}
use Rattle.desk_app.specs.declared.outcome.DeskOutcome.TheVariants.{FleetFound}
use Rattle.desk_app.specs.declared.outcome.DeskOutcome.TheVariants.{Stops, Usage, Refused, CannotRead, NoMemory}
use Rattle.desk_app.specs.FleetOutcomes.{IsFleetOutcome}
use Rattle.desk_app.specs.PlanOutcomes.{IsPlanOutcome}
use Rattle.desk_app.specs.ReplanOutcomes.{IsReplanOutcome}
use Rattle.desk_app.specs.SwapOutcomes.{IsSwapOutcome}
use Rattle.desk_app.specs.WeekOutcomes.{IsWeekOutcome}

-- ---- what the words ask for

-- to plan a day
abbrev pub AskToPlan : List (List ℕ) → Planning → Type 0
AskToPlan words planning = IsPlainForm words (command.Plan planning)

-- to swap units of a plan
abbrev pub AskToSwap : List (List ℕ) → Swapping → Type 0
AskToSwap words swapping = IsPlainForm words (command.Urgent swapping)

-- to plan the rest of a disturbed day
abbrev pub AskToReplan : List (List ℕ) → Replanning → Type 0
AskToReplan words replanning = IsPlainForm words (command.Replan replanning)

-- to plan a week
abbrev pub AskForWeek : List (List ℕ) → WeekPlanning → Type 0
AskForWeek words planning = IsPlainForm words (command.Week planning)

-- to find the fleet of least cost
abbrev pub AskForFleet : List (List ℕ) → FleetPlanning → Type 0
AskForFleet words planning = IsPlainForm words (command.Fleet planning)

-- the words are the plain form of no command
abbrev pub AskInVain : List (List ℕ) → Type 0
AskInVain words = (named : Command) → ¬ IsPlainForm words named

-- ---- what a run comes to

-- what a command came to, from a folder before to the same folder after
abbrev pub ComesTo : Command → FolderState → FolderState → DeskOutcome → Type 0
ComesTo (command.Plan planning) before after outcome = IsPlanOutcome planning before after outcome
ComesTo (command.Urgent swapping) before after outcome = IsSwapOutcome swapping.dir before after outcome
ComesTo (command.Replan replanning) before after outcome = IsReplanOutcome replanning before after outcome
ComesTo (command.Week planning) before after outcome = IsWeekOutcome planning before after outcome
ComesTo (command.Fleet planning) before after outcome = IsFleetOutcome planning before after outcome

-- A run of these words comes to this: their command came to it; or they ask for no command, and are not understood; or
-- memory ran out before they were read.
pub data IsOutcome (words : List (List ℕ)) (before after : FolderState) (outcome : DeskOutcome) : Type 0 where
  OfCommand : (named : Command) → IsPlainForm words named → ComesTo named before after outcome
      → IsOutcome words before after outcome
  InVain : AskInVain words → outcome ≡ Usage → IsOutcome words before after outcome
  Unread : outcome ≡ NoMemory → IsOutcome words before after outcome

-- ---- what follows from an outcome

-- the status of an outcome whose document was written, and of want of memory
abbrev pub status_of : DeskOutcome → ℕ
status_of (Planned answer) = status_said answer.head
status_of (Swapped swapped) = 0
status_of (Replanned rest) = status_said rest.replanned.head
status_of (PlannedWeek week) = status_said week.head
status_of (FleetFound found) = status_said found.fleet.head
status_of Stops = 1
status_of Usage = 2
status_of (Refused file) = 3
status_of (CannotRead file) = 5
status_of NoMemory = 7

-- whether an outcome is that a file could not be read
abbrev pub is_unread : DeskOutcome → Bool
is_unread (CannotRead file) = true
is_unread other = false
