-- The plain form: how a command is written as words.
use Rattle.std.specs.Prelude.{ℕ, ◌≡◌, ◌≤◌, List, [], ◌∷◌, codes, nat_le}
use Rattle.rail_base.specs.declared.limits.TheConstants.{MAX_BRANCHINGS, MAX_CHANGE, MAX_ROUNDS}
use Rattle.rail_csv.specs.Spelling.{SpellsTime}
use Rattle.plain_words.specs.Items.{Form, IsPlain, Item, WordList, positional_in, times, values_in}
use Rattle.plain_words.specs.Numbers.{IsNumber, IsOption}
use Rattle.desk_commands.specs.declared.command.Command.{Command}
use Rattle.desk_commands.specs.declared.command.Command.TheVariants.{Fleet, Plan, Replan, Urgent, Week}
use Rattle.desk_commands.specs.declared.fleet_planning.FleetPlanning.{FleetPlanning}
use Rattle.desk_commands.specs.declared.fleet_planning.TheConstants.{MAX_NODES_OF_FLEET, MAX_SPLITS_OF_FLEET}
use Rattle.desk_commands.specs.declared.fleet_planning.TheConstants.{USUAL_EVALUATIONS_OF_FLEET, USUAL_NODES_OF_FLEET}
use Rattle.desk_commands.specs.declared.fleet_planning.TheConstants.{USUAL_ROUNDS_OF_FLEET, USUAL_SPLITS_OF_FLEET}
use Rattle.desk_commands.specs.declared.planning.Planning.{Planning}
use Rattle.desk_commands.specs.declared.planning.TheConstants.{MAX_EVALUATIONS, USUAL_EVALUATIONS_OF_PLAN}
use Rattle.desk_commands.specs.declared.planning.TheConstants.{USUAL_NODES_OF_PLAN, USUAL_ROUNDS_OF_PLAN}
use Rattle.desk_commands.specs.declared.replanning.Replanning.{Replanning}
use Rattle.desk_commands.specs.declared.replanning.TheConstants.{USUAL_CHANGE, USUAL_EVALUATIONS_OF_REPLAN}
use Rattle.desk_commands.specs.declared.replanning.TheConstants.{USUAL_NODES_OF_REPLAN, USUAL_ROUNDS_OF_REPLAN}
use Rattle.desk_commands.specs.declared.swapping.Swapping.{Swapping}
use Rattle.desk_commands.specs.declared.week_planning.WeekPlanning.{WeekPlanning}
use Rattle.desk_commands.specs.declared.week_planning.TheConstants.{MAX_DAYS_OF_WEEK, USUAL_EVALUATIONS_OF_WEEK}
use Rattle.desk_commands.specs.declared.week_planning.TheConstants.{USUAL_NODES_OF_WEEK, USUAL_ROUNDS_OF_WEEK}

-- ---- what stands after the command word

abbrev pub plan_form : Form
plan_form = record {
  places = 1;
  valued = codes "--nodes" ∷ codes "--rounds" ∷ codes "--evaluations" ∷ [];
  flags = codes "--progress" ∷ [];
}

-- a folder and no options
abbrev pub folder_form : Form
folder_form = record { places = 1; valued = []; flags = [] }

-- a folder, a time, and options
abbrev pub replan_form : Form
replan_form = record {
  places = 2;
  valued = codes "--change" ∷ codes "--nodes" ∷ codes "--rounds" ∷ codes "--evaluations" ∷ [];
  flags = [];
}

-- a folder, a number of days, and options
abbrev pub week_form : Form
week_form = record {
  places = 2;
  valued = codes "--nodes" ∷ codes "--rounds" ∷ codes "--evaluations" ∷ [];
  flags = [];
}

-- a folder and options
abbrev pub fleet_form : Form
fleet_form = record {
  places = 1;
  valued = codes "--nodes" ∷ codes "--rounds" ∷ codes "--splits" ∷ codes "--evaluations" ∷ [];
  flags = [];
}

abbrev pub form_for : Command → Form
form_for (Plan planning) = plan_form
form_for (Urgent swapping) = folder_form
form_for (Replan replanning) = replan_form
form_for (Week planning) = week_form
form_for (Fleet planning) = fleet_form

-- ---- what it says

-- how a day is to be planned: its folder, what is granted, and whether the progress is told
pub record IsPlanning (items : List Item) (planning : Planning) : Type 0 where
  pub dir : positional_in items ≡ planning.dir ∷ []
  pub nodes : IsOption USUAL_NODES_OF_PLAN MAX_BRANCHINGS (values_in (codes "--nodes") items) planning.nodes
  pub rounds : IsOption USUAL_ROUNDS_OF_PLAN MAX_ROUNDS (values_in (codes "--rounds") items) planning.rounds
  pub evaluations : IsOption USUAL_EVALUATIONS_OF_PLAN MAX_EVALUATIONS (values_in (codes "--evaluations") items)
      planning.evaluations
  pub progress : planning.tells_progress ≡ nat_le 1 (times (codes "--progress") items)

-- of which day the units are to be swapped
abbrev pub IsSwapping : List Item → Swapping → Type 0
IsSwapping items swapping = positional_in items ≡ swapping.dir ∷ []

-- how the rest of a day is to be planned: its folder, the minute, what a change costs, and what is granted
pub record IsReplanning (items : List Item) (replanning : Replanning) : Type 0 where
  pub time : List ℕ
  pub places : positional_in items ≡ replanning.dir ∷ time ∷ []
  pub minute : SpellsTime time replanning.minute
  pub change : IsOption USUAL_CHANGE MAX_CHANGE (values_in (codes "--change") items) replanning.change
  pub nodes : IsOption USUAL_NODES_OF_REPLAN MAX_BRANCHINGS (values_in (codes "--nodes") items) replanning.nodes
  pub rounds : IsOption USUAL_ROUNDS_OF_REPLAN MAX_ROUNDS (values_in (codes "--rounds") items) replanning.rounds
  pub evaluations : IsOption USUAL_EVALUATIONS_OF_REPLAN MAX_EVALUATIONS (values_in (codes "--evaluations") items)
      replanning.evaluations

-- how a week is to be planned: its folder, its days, and what is granted
pub record IsWeekPlanning (items : List Item) (planning : WeekPlanning) : Type 0 where
  pub number : List ℕ
  pub places : positional_in items ≡ planning.dir ∷ number ∷ []
  pub days : IsNumber MAX_DAYS_OF_WEEK number planning.days
  pub some : 1 ≤ planning.days
  pub nodes : IsOption USUAL_NODES_OF_WEEK MAX_BRANCHINGS (values_in (codes "--nodes") items) planning.nodes
  pub rounds : IsOption USUAL_ROUNDS_OF_WEEK MAX_ROUNDS (values_in (codes "--rounds") items) planning.rounds
  pub evaluations : IsOption USUAL_EVALUATIONS_OF_WEEK MAX_EVALUATIONS (values_in (codes "--evaluations") items)
      planning.evaluations

-- how the fleet of least cost is to be found: the folder of its day, and what is granted
pub record IsFleetPlanning (items : List Item) (planning : FleetPlanning) : Type 0 where
  pub dir : positional_in items ≡ planning.dir ∷ []
  pub nodes : IsOption USUAL_NODES_OF_FLEET MAX_NODES_OF_FLEET (values_in (codes "--nodes") items) planning.nodes
  pub rounds : IsOption USUAL_ROUNDS_OF_FLEET MAX_ROUNDS (values_in (codes "--rounds") items) planning.rounds
  pub splits : IsOption USUAL_SPLITS_OF_FLEET MAX_SPLITS_OF_FLEET (values_in (codes "--splits") items) planning.splits
  pub evaluations : IsOption USUAL_EVALUATIONS_OF_FLEET MAX_EVALUATIONS (values_in (codes "--evaluations") items)
      planning.evaluations

abbrev pub IsMeant : List Item → Command → Type 0
IsMeant items (Plan planning) = IsPlanning items planning
IsMeant items (Urgent swapping) = IsSwapping items swapping
IsMeant items (Replan replanning) = IsReplanning items replanning
IsMeant items (Week planning) = IsWeekPlanning items planning
IsMeant items (Fleet planning) = IsFleetPlanning items planning

-- ---- the command

abbrev pub command_word : Command → List ℕ
command_word (Plan planning) = codes "plan"
command_word (Urgent swapping) = codes "urgent"
command_word (Replan replanning) = codes "replan"
command_word (Week planning) = codes "week"
command_word (Fleet planning) = codes "fleet"

-- The words are the plain form of the command: any word for the program's name, the command word, and after it words of
-- the command's form, which mean it.
pub record IsPlainForm (words : WordList) (command : Command) : Type 0 where
  pub program : List ℕ
  pub rest : WordList
  pub items : List Item
  pub written : words ≡ program ∷ command_word command ∷ rest
  pub plain : IsPlain (form_for command) rest items
  pub meant : IsMeant items command
