-- How a run of the desk ends, command by command: the status, and what was written.
use Rattle.std.specs.Prelude.{ℕ, ◌≡◌, List, Option, Some}
use Rattle.rail_io.specs.Folders.{Files}
use Rattle.statuses.specs.Endings.{EndsInUsage}
use Rattle.run_documents.specs.Planning.{EndsPlanning}
use Rattle.desk_commands.specs.declared.fleet_planning.FleetPlanning.{FleetPlanning}
use Rattle.desk_commands.specs.declared.planning.Planning.{Planning}
use Rattle.desk_commands.specs.declared.replanning.Replanning.{Replanning}
use Rattle.desk_commands.specs.declared.swapping.Swapping.{Swapping}
use Rattle.desk_commands.specs.declared.week_planning.WeekPlanning.{WeekPlanning}
use Rattle.desk_app.specs.Documents.{table_refused_line, usage_line}
use Rattle.desk_app.specs.FleetEndings.{EndsFleet}
use Rattle.desk_app.specs.Outcomes.{AskForFleet, AskForWeek, AskInVain, AskToPlan, AskToReplan, AskToSwap}
use Rattle.desk_app.specs.ReplanEndings.{EndsReplanning}
use Rattle.desk_app.specs.SwapEndings.{EndsSwapping}
use Rattle.desk_app.specs.WeekEndings.{EndsWeek}

-- The status with which a run of these words ends, and what was written, where the status is none of 5, 6 and 7. What a
-- command says of files it says of those that the folder told it holds.
pub record EndsByCommand (told : Option Files) (words : List (List ℕ)) (status : ℕ) (before after : Option (List ℕ))
    : Type 0 where
  -- a day is planned: the headline
  pub plan : (files : Files) (planning : Planning) → told ≡ Some files → AskToPlan words planning
      → EndsPlanning table_refused_line files planning.dir planning.nodes status before after
  -- units are swapped
  pub urgent : (files : Files) (swapping : Swapping) → told ≡ Some files → AskToSwap words swapping
      → EndsSwapping files swapping.dir status before after
  -- the rest of a disturbed day is planned
  pub replan : (files : Files) (replanning : Replanning) → told ≡ Some files → AskToReplan words replanning
      → EndsReplanning files replanning status before after
  -- a week is planned
  pub week : (files : Files) (planning : WeekPlanning) → told ≡ Some files → AskForWeek words planning
      → EndsWeek files planning status before after
  -- the fleet of least cost is found
  pub fleet : (files : Files) (planning : FleetPlanning) → told ≡ Some files → AskForFleet words planning
      → EndsFleet files planning status before after
  -- the words may be no command
  pub usage : EndsInUsage (AskInVain words) usage_line status before after
