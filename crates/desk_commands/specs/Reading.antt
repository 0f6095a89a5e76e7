-- What the words after the program's name are read as.
use Rattle.std.specs.Prelude.{ℕ, ◌≡◌, List, Option, Some, None, Result, Ok, Err, ⊤}
use Rattle.plain_words.specs.declared.refusal.WordsRefusal.{WordsRefusal}
use Rattle.plain_words.specs.declared.refusal.WordsRefusal.TheVariants.{NotUnderstood, NoMemory}
use Rattle.plain_words.specs.Items.{Form, IsPlain, Item, WordList}
use Rattle.desk_commands.specs.declared.command.Command.{Command}
use Rattle.desk_commands.specs.PlainForm.{IsMeant, command_word, form_for}

-- The command of a command word and the words after it, where it is the command's own word and they are of its form and
-- mean it; where they are refused, they mean no command. Want of memory is free.
abbrev pub ReadsCommand : List ℕ → WordList → Result Command WordsRefusal → Type 0
ReadsCommand word rest (Ok command) =
    (word ≡ command_word command) × (items : List Item) × IsPlain (form_for command) rest items × IsMeant items command
ReadsCommand word rest (Err NotUnderstood) = (command : Command) (items : List Item) → word ≡ command_word command
    → IsPlain (form_for command) rest items → ¬ IsMeant items command
ReadsCommand word rest (Err NoMemory) = ⊤

-- what is meant by the words after a command word, where they are of its form and mean something
abbrev pub ReadsAs : {C : Type 0} → Form → (List Item → C → Type 0) → WordList → Option C → Type 0
ReadsAs form Means rest None = (it : _) (items : List Item) → IsPlain form rest items → ¬ Means items it
ReadsAs form Means rest (Some it) = (items : List Item) × IsPlain form rest items × Means items it

-- what is meant by items, where they mean something
abbrev pub SaysAs : {C : Type 0} → (List Item → C → Type 0) → List Item → Option C → Type 0
SaysAs Means items None = (it : _) → ¬ Means items it
SaysAs Means items (Some it) = Means items it
