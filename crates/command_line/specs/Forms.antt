-- The forms of the commands, as forms of words, and what words of them say.
use Rattle.std.specs.Prelude.{◌≡◌, List, [], ◌∷◌, codes}
use Rattle.command_line.specs.declared.form.Form.{Form}
use Rattle.command_line.specs.declared.form.Form.TheVariants.{Folder, FolderSearch, DaySearch}
use Rattle.command_line.specs.Texts.{Texts, said}
use Rattle.plain_words.specs.Items as plain
use Rattle.plain_words.specs.Items.{IsPlain, Item, WordList, positional_in, values_in}

-- the options of a search, each with a value
abbrev pub search_options : WordList
search_options = codes "--nodes" ∷ codes "--rounds" ∷ []

abbrev pub form_of : Form → plain.Form
form_of Folder = record { places = 1; valued = []; flags = [] }
form_of FolderSearch = record { places = 1; valued = search_options; flags = [] }
form_of DaySearch = record { places = 2; valued = search_options; flags = [] }

-- the words are of a form, as some items
abbrev pub ArePlain : Form → WordList → Type 0
ArePlain form words = (items : List Item) × IsPlain (form_of form) words items

-- what items say: their positional words and the values of the two options
abbrev pub items_said : List Item → Texts
items_said items = said (positional_in items) (values_in (codes "--nodes") items) (values_in (codes "--rounds") items)

-- as whatever items the words are of the form, the texts are those of the items
abbrev pub SaysItems : Form → WordList → Texts → Type 0
SaysItems form words texts = (items : List Item) → IsPlain (form_of form) words items → texts ≡ items_said items
