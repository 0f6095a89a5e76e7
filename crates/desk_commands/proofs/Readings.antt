-- What words are read as.
use Rattle.std.proofs.Common.{◌≡◌, ℕ, Bool, true, false, List, [], ◌∷◌, Option, Some, None, Result, Ok, Err, length, drop, refl, ap, subst, inl, inr, arith}
use Rattle.std.specs.Prelude.{slice_get, if◌then◌else◌, IfOk}
use Rattle.rail_csv.specs.Fields.{is_time, time_of}
use Rattle.rail_csv.specs.Spelling.{SpellsTime}
use Rattle.plain_words.specs.declared.refusal.WordsRefusal.{WordsRefusal}
use Rattle.plain_words.specs.declared.refusal.WordsRefusal.TheVariants.{NotUnderstood, NoMemory}
use Rattle.plain_words.specs.Commands.{Reads}
use Rattle.plain_words.specs.Items.{Form, IsPlain, Item, ReadsForm, WordList}
use Rattle.desk_commands.specs.declared.command.Command.{Command}
use Rattle.desk_commands.specs.PlainForm.{IsPlainForm, command_word, form_for}
use Rattle.desk_commands.specs.Reading.{ReadsAs, ReadsCommand, SaysAs}
use Rattle.desk_commands.proofs.OneCommand.{one_command}

-- ---- the words after the program's name

-- the words of a command word and the words after it
pub reads : (words : WordList) (word : List ℕ) (rest : WordList) (result : Result Command WordsRefusal)
    → slice_get words 1 ≡ Some word → rest ≡ drop 2 words → ReadsCommand word rest result → Reads IsPlainForm words result
reads [] word rest result second after read = absurd cc
reads (program ∷ []) word rest result second after read = absurd cc
reads (program ∷ next ∷ others) word rest (Ok command) second after read = record {
  understood = λ other e. let same : command ≡ other = cc in subst (λ (it : Command). IsPlainForm (program ∷ next ∷ others) it) same form;
  refused = λ e other form. absurd cc;
  given = λ other given. inl (ap Ok (one_command (program ∷ next ∷ others) command other form given));
}
  where
    written : program ∷ next ∷ others ≡ program ∷ command_word command ∷ rest
    written =
        let same : ◌≡◌ {A = Option (List ℕ)} (Some next) (Some word) = second in
        let is : word ≡ command_word command = read.0 in
        let tail : rest ≡ others = after in
        cc

    form : IsPlainForm (program ∷ next ∷ others) command
    form = record { program = program; rest = rest; items = read.1; written = written; plain = read.2; meant = read.3 }
reads (program ∷ next ∷ others) word rest (Err NotUnderstood) second after read = record {
  understood = λ command e. absurd cc;
  refused = λ e command form. never command form;
  given = λ command form. absurd (never command form);
}
  where
    never : (command : Command) → IsPlainForm (program ∷ next ∷ others) command → ⊥
    never command form =
        let lists : ◌≡◌ {A = WordList} (program ∷ next ∷ others) (form.program ∷ command_word command ∷ form.rest) = form.written in
        let same : ◌≡◌ {A = Option (List ℕ)} (Some next) (Some word) = second in
        let is : word ≡ command_word command = cc in
        let tail : rest ≡ others = after in
        let whole : form.rest ≡ rest = cc in
        read command form.items is (subst (λ (words : WordList). IsPlain (form_for command) words form.items) whole form.plain) form.meant
reads (program ∷ next ∷ others) word rest (Err NoMemory) second after read = record {
  understood = λ command e. absurd cc;
  refused = λ e command form. absurd cc;
  given = λ command form. inr refl;
}

-- ---- a folder

-- one word that is the first is all words
pub one_word : (words : WordList) (dir : List ℕ) → length words ≡ 1 → slice_get words 0 ≡ Some dir → words ≡ dir ∷ []
one_word [] dir one first = absurd (omega (arith, one))
one_word (word ∷ []) dir one first = let same : ◌≡◌ {A = Option (List ℕ)} (Some word) (Some dir) = first in cc
one_word (word ∷ next ∷ others) dir one first = absurd (omega (arith, one))

-- ---- a folder and a time

-- two words that are the first and the second are all words
pub two_words : (words : WordList) (dir time : List ℕ) → length words ≡ 2 → slice_get words 0 ≡ Some dir → slice_get words 1 ≡ Some time
    → words ≡ dir ∷ time ∷ []
two_words [] dir time two first second = absurd (omega (arith, two))
two_words (word ∷ []) dir time two first second = absurd (omega (arith, two))
two_words (word ∷ next ∷ []) dir time two first second =
    let one : ◌≡◌ {A = Option (List ℕ)} (Some word) (Some dir) = first in
    let other : ◌≡◌ {A = Option (List ℕ)} (Some next) (Some time) = second in cc
two_words (word ∷ next ∷ again ∷ others) dir time two first second = absurd (omega (arith, two))

-- what is read of a text that is a time is what it spells
pub spelled : (text : List ℕ) (minute : ℕ) → Some minute ≡ (if is_time text then Some (time_of text) else None) → SpellsTime text minute
spelled text minute read = by (is_time text) refl read
  where
    by : (b : Bool) → is_time text ≡ b → Some minute ≡ (if b then Some (time_of text) else None) → SpellsTime text minute
    by true is e = let same : time_of text ≡ minute = cc in (is, same)
    by false is e = absurd cc

-- ---- words that were taken apart

-- what the items of words mean is what the words mean
pub reads_as : {C E : Type 0} (form : Form) (Means : List Item → C → Type 0) (rest : WordList) (taken : Option (List Item)) (given : List Item)
    (result : Result (Option C) E) → ReadsForm form rest taken → taken ≡ Some given → IfOk result (SaysAs Means given)
    → IfOk result (ReadsAs form Means rest)
reads_as {C} {E} form Means rest taken given result read some says = by result says
  where
    so : ReadsForm form rest (Some given)
    so = subst (λ (taken : Option (List Item)). ReadsForm form rest taken) some read

    by : (result : Result (Option C) E) → IfOk result (SaysAs Means given) → IfOk result (ReadsAs form Means rest)
    by (Err none) says = tt
    by (Ok (Some it)) says = (given, so.0, says)
    by (Ok None) says =
        λ it items plain means. says it (subst (λ (items : List Item). Means items it) (so.1 items plain) means)
