-- The plain form: how a command is written as words.
use Rattle.std.specs.Prelude.{ℕ, ◌≡◌, ◌≤◌, ◌%◌, List, [], ◌∷◌, codes}
use Rattle.rail_base.specs.declared.limits.TheConstants.{MAX_BRANCHINGS, MAX_ROUNDS, MAX_TRIPS}
use Rattle.plain_words.specs.Items.{IsPlain, Item, WordList, positional_in, values_in}
use Rattle.plain_words.specs.Numbers.{IsNumber, IsOption}
use Rattle.command_line.specs.declared.form.Form.{Form}
use Rattle.command_line.specs.declared.form.Form.TheVariants.{Folder, FolderSearch, DaySearch}
use Rattle.command_line.specs.Forms.{form_of}
use Rattle.commands.specs.declared.command.Command.{Command}
use Rattle.commands.specs.declared.command.Command.TheVariants.{Plan, Simulate, Check, Duties, Yards, Costs, Trial}
use Rattle.commands.specs.declared.command.TheConstants.{MAX_SEED, USUAL_NODES, USUAL_ROUNDS}

-- ---- what it means

-- a folder, and no options
abbrev pub IsInFolder : List ℕ → WordList → WordList → WordList → Type 0
IsInFolder dir positional nodes rounds = (positional ≡ dir ∷ []) × (nodes ≡ []) × (rounds ≡ [])

-- the grant and the rounds of a search
abbrev pub IsSearch : ℕ → ℕ → WordList → WordList → Type 0
IsSearch n k nodes rounds = IsOption USUAL_NODES MAX_BRANCHINGS nodes n × IsOption USUAL_ROUNDS MAX_ROUNDS rounds k

-- what a trial day is made from, and its trips, an even number that is not 0
pub record IsTrial (positional : WordList) (seed trips : ℕ) : Type 0 where
  pub seed_text : List ℕ
  pub trips_text : List ℕ
  pub both : positional ≡ seed_text ∷ trips_text ∷ []
  pub seed_number : IsNumber MAX_SEED seed_text seed
  pub trips_number : IsNumber MAX_TRIPS trips_text trips
  pub some : 2 ≤ trips
  pub even : trips % 2 ≡ 0

abbrev pub command_word : Command → List ℕ
command_word (Plan dir nodes rounds) = codes "plan"
command_word (Simulate dir) = codes "simulate"
command_word (Check dir) = codes "check"
command_word (Duties dir) = codes "duties"
command_word (Yards dir) = codes "yards"
command_word (Costs dir) = codes "costs"
command_word (Trial seed trips nodes rounds) = codes "trial"

-- positional words, values of `--nodes` and values of `--rounds` that make the command
abbrev pub Means : WordList → WordList → WordList → Command → Type 0
Means positional nodes rounds (Plan dir n k) = (positional ≡ dir ∷ []) × IsSearch n k nodes rounds
Means positional nodes rounds (Simulate dir) = IsInFolder dir positional nodes rounds
Means positional nodes rounds (Check dir) = IsInFolder dir positional nodes rounds
Means positional nodes rounds (Duties dir) = IsInFolder dir positional nodes rounds
Means positional nodes rounds (Yards dir) = IsInFolder dir positional nodes rounds
Means positional nodes rounds (Costs dir) = IsInFolder dir positional nodes rounds
Means positional nodes rounds (Trial seed trips n k) = IsTrial positional seed trips × IsSearch n k nodes rounds

-- what a command has after its command word
abbrev pub form_for : Command → Form
form_for (Plan dir nodes rounds) = FolderSearch
form_for (Simulate dir) = Folder
form_for (Check dir) = Folder
form_for (Duties dir) = Folder
form_for (Yards dir) = Folder
form_for (Costs dir) = Folder
form_for (Trial seed trips nodes rounds) = DaySearch

-- The words are the plain form of the command: any word for the program's name, the command word, and after it words of
-- the command's form, which mean it.
pub record IsPlainForm (words : WordList) (command : Command) : Type 0 where
  pub program : List ℕ
  pub rest : WordList
  pub items : List Item
  pub written : words ≡ program ∷ command_word command ∷ rest
  pub form : IsPlain (form_of (form_for command)) rest items
  pub meant : Means (positional_in items) (values_in (codes "--nodes") items) (values_in (codes "--rounds") items)
      command
