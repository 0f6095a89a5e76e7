-- The commands of `clap` that take the words apart.
use Rattle.std.specs.Prelude.{Some, codes, true}
use Rattle.clap.specs.Walk.{Rule, Text}
use Rattle.clap.specs.Simple.{App, new_app, new_rule, on_top, with_rule}
use Rattle.command_line.specs.declared.form.Form.{Form}
use Rattle.command_line.specs.declared.form.Form.TheVariants.{Folder, FolderSearch, DaySearch}

abbrev pub nodes_rule : Rule
nodes_rule = record (new_rule (codes "nodes")) { long = Some (codes "nodes") }

abbrev pub rounds_rule : Rule
rounds_rule = record (new_rule (codes "rounds")) { long = Some (codes "rounds") }

-- no name stands before the words, and no word asks for help
abbrev pub words_alone : App
words_alone =
    on_top (λ shape. record shape { no_binary_name = true; disable_help_flag = true }) (new_app (codes "words"))

abbrev pub folder_app : App
folder_app = with_rule words_alone (new_rule (codes "dir"))

abbrev pub day_app : App
day_app = with_rule (with_rule words_alone (new_rule (codes "seed"))) (new_rule (codes "trips"))

abbrev pub app : Form → App
app Folder = folder_app
app FolderSearch = with_rule (with_rule folder_app nodes_rule) rounds_rule
app DaySearch = with_rule (with_rule day_app nodes_rule) rounds_rule

-- the name of the first positional word
abbrev pub first_id : Form → Text
first_id Folder = codes "dir"
first_id FolderSearch = codes "dir"
first_id DaySearch = codes "seed"
