-- What holds of all words, and the numbers that they are held to.
use Rattle.std.specs.Prelude.{◌≡◌}
use Rattle.rail_base.specs.declared.limits.TheConstants.{MAX_BRANCHINGS, MAX_CHANGE, MAX_ROUNDS}
use Rattle.plain_words.specs.Items.{WordList}
use Rattle.desk_commands.specs.declared.command.Command.{Command}
use Rattle.desk_commands.specs.declared.fleet_planning.TheConstants.{MAX_NODES_OF_FLEET, MAX_SPLITS_OF_FLEET}
use Rattle.desk_commands.specs.declared.fleet_planning.TheConstants.{USUAL_EVALUATIONS_OF_FLEET, USUAL_NODES_OF_FLEET}
use Rattle.desk_commands.specs.declared.fleet_planning.TheConstants.{USUAL_ROUNDS_OF_FLEET, USUAL_SPLITS_OF_FLEET}
use Rattle.desk_commands.specs.declared.planning.TheConstants.{MAX_EVALUATIONS, USUAL_EVALUATIONS_OF_PLAN}
use Rattle.desk_commands.specs.declared.planning.TheConstants.{USUAL_NODES_OF_PLAN, USUAL_ROUNDS_OF_PLAN}
use Rattle.desk_commands.specs.declared.replanning.TheConstants.{USUAL_CHANGE, USUAL_EVALUATIONS_OF_REPLAN}
use Rattle.desk_commands.specs.declared.replanning.TheConstants.{USUAL_NODES_OF_REPLAN, USUAL_ROUNDS_OF_REPLAN}
use Rattle.desk_commands.specs.declared.week_planning.TheConstants.{MAX_DAYS_OF_WEEK, USUAL_EVALUATIONS_OF_WEEK}
use Rattle.desk_commands.specs.declared.week_planning.TheConstants.{USUAL_NODES_OF_WEEK, USUAL_ROUNDS_OF_WEEK}
use Rattle.desk_commands.specs.PlainForm.{IsPlainForm}

-- words are the plain form of one command at most
abbrev pub WordsMakeOneCommand : Type 0
WordsMakeOneCommand = (words : WordList) (one other : Command) → IsPlainForm words one → IsPlainForm words other
    → one ≡ other

-- the numbers in words, and options that are not given
pub record AreWordLimits : Type 0 where
  pub branchings : MAX_BRANCHINGS ≡ 4000
  pub rounds : MAX_ROUNDS ≡ 100
  pub evaluations : MAX_EVALUATIONS ≡ 100000
  pub change : MAX_CHANGE ≡ 1000000
  pub usual_nodes_of_plan : USUAL_NODES_OF_PLAN ≡ 200
  pub usual_rounds_of_plan : USUAL_ROUNDS_OF_PLAN ≡ 0
  pub usual_evaluations_of_plan : USUAL_EVALUATIONS_OF_PLAN ≡ 500
  pub usual_change : USUAL_CHANGE ≡ 0
  pub usual_nodes_of_replan : USUAL_NODES_OF_REPLAN ≡ 200
  pub usual_rounds_of_replan : USUAL_ROUNDS_OF_REPLAN ≡ 20
  pub usual_evaluations_of_replan : USUAL_EVALUATIONS_OF_REPLAN ≡ 0
  pub days_of_week : MAX_DAYS_OF_WEEK ≡ 7
  pub usual_nodes_of_week : USUAL_NODES_OF_WEEK ≡ 200
  pub usual_rounds_of_week : USUAL_ROUNDS_OF_WEEK ≡ 20
  pub usual_evaluations_of_week : USUAL_EVALUATIONS_OF_WEEK ≡ 0
  pub nodes_of_fleet : MAX_NODES_OF_FLEET ≡ 200
  pub splits_of_fleet : MAX_SPLITS_OF_FLEET ≡ 200
  pub usual_nodes_of_fleet : USUAL_NODES_OF_FLEET ≡ 50
  pub usual_rounds_of_fleet : USUAL_ROUNDS_OF_FLEET ≡ 20
  pub usual_splits_of_fleet : USUAL_SPLITS_OF_FLEET ≡ 50
  pub usual_evaluations_of_fleet : USUAL_EVALUATIONS_OF_FLEET ≡ 0
