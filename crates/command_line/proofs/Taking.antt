-- What `clap` finds in words of the plain form: the texts that the words say.
use Rattle.std.proofs.Common.{◌≡◌, ◌≤◌, ◌+◌, ◌∙◌, refl, ap, sym, subst, List, [], ◌∷◌, Bool, true, false, codes}
use Rattle.std.proofs.Common.{Option, Some, cond, length, arith, Bor}
use Rattle.std.specs.Prelude.{◌&&◌, ◌==◌, find, fold, nat_le, option_map, slice_get, ⊤}
use Rattle.std.specs.Str.{bytes_eq}
use Rattle.std.proofs.lemmas.Bool.{and_from, and_parts}
use Rattle.std.proofs.lemmas.Bool.Decides.{nat_tests}
use Rattle.clap.specs.declared.parser.matches.Found.{Found}
use Rattle.clap.specs.Matches.{first_value}
use Rattle.clap.proofs.WalkLemmas.{first_value-rows}
use Rattle.clap.specs.Walk.{Row, Rule, Text, Walk, first_of, has_row, nothing_held, rows_after, rows_of}
use Rattle.clap.specs.Walk.{walk_from, with_default}
use Rattle.clap.specs.Takes.{level_passes, settle_passes, takes}
use Rattle.clap.specs.Simple.{built, is_simple, matches_of}
use Rattle.clap.proofs.OnLiterals.{clap_on_literals}
use Rattle.clap.proofs.TakesLemmas.{leaf_takes}
use Rattle.command_line.specs.declared.form.OptionName.{OptionName}
use Rattle.command_line.specs.declared.form.OptionName.TheVariants.{Nodes, Rounds}
use Rattle.command_line.specs.declared.form.Form.{Form}
use Rattle.command_line.specs.declared.form.Form.TheVariants.{Folder, FolderSearch, DaySearch}
use Rattle.command_line.specs.Apps.{app, first_id}
use Rattle.plain_words.specs.Items.{WordList}
use Rattle.command_line.proofs.OptionItems.{Item, Positional, TwoWords, OneWord, HaveTheirForm}
use Rattle.command_line.proofs.OptionItems.{positional_in, value_before, values_in, words_of}
use Rattle.command_line.specs.declared.taken.GivenTexts.{GivenTexts}
use Rattle.command_line.specs.Texts.{said, texts_in, texts_of}
use Rattle.command_line.specs.Parts.{Parts, fits, parts_of, places, times}
use Rattle.command_line.proofs.PlainForms.{Made, clean, made, parts_are, is_whole}
use Rattle.command_line.proofs.Rows.{one_row, value_in}
use Rattle.command_line.proofs.Stepping.{Ordinal, First, Second, Third, has_place, next, place_id, id_of, settle, rules}
use Rattle.command_line.proofs.Passing.{how, shape}
use Rattle.command_line.proofs.Walking.{HasRoomFor, Stands, Walks, apart, apart_too, before, item_rows, walks}

-- ---- from nothing

abbrev none_given : OptionName → Bool
none_given name = false

nothing_stands : (form : Form) → Stands form First none_given []
nothing_stands form = record { options = λ name. refl; places = nowhere }
  where
    nowhere : (other : Ordinal) → has_place form other ≡ true → false ≡ before other First
    nowhere First has = refl
    nowhere Second has = refl
    nowhere Third has = refl

-- ---- after the walk: there are no defaults

abbrev HaveNoDefaults : List Rule → Type 0
HaveNoDefaults [] = ⊤
HaveNoDefaults (rule ∷ rest) = (rule.defaults ≡ []) × HaveNoDefaults rest

same_rows : (b : Bool) (rows : List Row) → cond b rows rows ≡ rows
same_rows true rows = refl
same_rows false rows = refl

no_default : (rule : Rule) (rows : List Row) → rule.defaults ≡ [] → with_default rows rule ≡ rows
no_default rule rows none =
    ap (λ (values : List Text). with_default rows (record rule { defaults = values })) none
    ∙ same_rows (has_row rule.id rows) rows

no_defaults : (list : List Rule) (rows : List Row) → HaveNoDefaults list → fold with_default rows list ≡ rows
no_defaults [] rows none = refl
no_defaults (rule ∷ rest) rows none =
    ap (λ (r : List Row). fold with_default r rest) (no_default rule rows none.0) ∙ no_defaults rest rows none.1

finished_is : (form : Form) (rows : List Row) → fold with_default rows (rules form) ≡ rows
finished_is Folder rows = no_defaults (rules Folder) rows (refl, tt)
finished_is FolderSearch rows = no_defaults (rules FolderSearch) rows (refl, (refl, (refl, tt)))
finished_is DaySearch rows = no_defaults (rules DaySearch) rows (refl, (refl, (refl, (refl, tt))))

matches_are : (form : Form) (words : List Text) → matches_of (app form) words ≡ rows_after (rules form) [] words
matches_are Folder words = refl
matches_are FolderSearch words = refl
matches_are DaySearch words = refl

pub simple : (form : Form) → is_simple (app form) ≡ true
unfolding clap_on_literals
simple Folder = refl
simple FolderSearch = refl
simple DaySearch = refl

-- the rows that `clap` makes of the words
found : (form : Form) (words : List Text) (rows : List Row)
    → Walks form (walk_from nothing_held) words rows → matches_of (app form) words ≡ rows
found form words rows walks = matches_are form words
    ∙ ap (λ (w : Walk). fold with_default (settle form w.held) (rules form)) walks.stops
    ∙ finished_is form (settle form walks.end) ∙ walks.settled

-- ---- `clap` takes the words

level : (form : Form) (words : List Text) (rows : List Row) → Walks form (walk_from nothing_held) words rows
    → level_passes (shape form) [] nothing_held words false ≡ true
level Folder words rows walks = and_from _ _ walks.passes
    (and_from _ _ (ap (λ (w : Walk). settle_passes (rules Folder) false w.held) walks.stops ∙ walks.end_passes) refl)
level FolderSearch words rows walks = and_from _ _ walks.passes
    (and_from _ _ (ap (λ (w : Walk). settle_passes (rules FolderSearch) false w.held) walks.stops ∙ walks.end_passes)
    refl)
level DaySearch words rows walks = and_from _ _ walks.passes
    (and_from _ _ (ap (λ (w : Walk). settle_passes (rules DaySearch) false w.held) walks.stops ∙ walks.end_passes) refl)

takes_level : (form : Form) (words : List Text) → level_passes (shape form) [] nothing_held words false ≡ true
    → takes (app form) words ≡ true
takes_level Folder words passes =
    and_from _ _ (simple Folder) (leaf_takes (built (app Folder)) nothing_held words refl passes)
takes_level FolderSearch words passes =
    and_from _ _ (simple FolderSearch) (leaf_takes (built (app FolderSearch)) nothing_held words refl passes)
takes_level DaySearch words passes =
    and_from _ _ (simple DaySearch) (leaf_takes (built (app DaySearch)) nothing_held words refl passes)

-- ---- the texts in the rows of items

-- a row of another argument is passed over
passed : (asked id v : Text) (rows : List Row) (value : Option Text) → bytes_eq id asked ≡ false
    → first_of asked rows ≡ value → first_of asked (one_row id how v ∷ rows) ≡ value
passed asked id v rows value other same =
    ap (λ (b : Bool). value_in (cond b (Some (one_row id how v)) (find (λ r. bytes_eq r.id asked) rows))) other
    ∙ same

met : (asked id v : Text) (rows : List Row) → bytes_eq id asked ≡ true
    → first_of asked (one_row id how v ∷ rows) ≡ Some v
met asked id v rows same =
    ap (λ (b : Bool). value_in (cond b (Some (one_row id how v)) (find (λ r. bytes_eq r.id asked) rows))) same

first_same : (form : Form) → bytes_eq (first_id form) (first_id form) ≡ true
first_same Folder = refl
first_same FolderSearch = refl
first_same DaySearch = refl

first_other : (form : Form) → bytes_eq (first_id form) (codes "trips") ≡ false
first_other Folder = refl
first_other FolderSearch = refl
first_other DaySearch = refl

first_text : (form : Form) (items : List Item)
    → first_of (first_id form) (item_rows form First items) ≡ slice_get (positional_in items) 0
first_text form [] = refl
first_text form (Positional word ∷ items) =
    met (first_id form) (first_id form) word (item_rows form Second items) (first_same form)
first_text form (TwoWords name value ∷ items) =
    passed (first_id form) (id_of name) value (item_rows form First items) (slice_get (positional_in items) 0)
    (apart_too form First name) (first_text form items)
first_text form (OneWord name value ∷ items) =
    passed (first_id form) (id_of name) value (item_rows form First items) (slice_get (positional_in items) 0)
    (apart_too form First name) (first_text form items)

second_later : (form : Form) (items : List Item)
    → first_of (codes "trips") (item_rows form Second items) ≡ slice_get (positional_in items) 0
second_later form [] = refl
second_later form (Positional word ∷ items) =
    met (codes "trips") (codes "trips") word (item_rows form Third items) refl
second_later form (TwoWords name value ∷ items) =
    passed (codes "trips") (id_of name) value (item_rows form Second items) (slice_get (positional_in items) 0)
    (apart_too form Second name) (second_later form items)
second_later form (OneWord name value ∷ items) =
    passed (codes "trips") (id_of name) value (item_rows form Second items) (slice_get (positional_in items) 0)
    (apart_too form Second name) (second_later form items)

second_text : (form : Form) (items : List Item)
    → first_of (codes "trips") (item_rows form First items) ≡ slice_get (positional_in items) 1
second_text form [] = refl
second_text form (Positional word ∷ items) =
    passed (codes "trips") (first_id form) word (item_rows form Second items) (slice_get (positional_in items) 0)
    (first_other form) (second_later form items)
second_text form (TwoWords name value ∷ items) =
    passed (codes "trips") (id_of name) value (item_rows form First items) (slice_get (positional_in items) 1)
    (apart_too form Second name) (second_text form items)
second_text form (OneWord name value ∷ items) =
    passed (codes "trips") (id_of name) value (item_rows form First items) (slice_get (positional_in items) 1)
    (apart_too form Second name) (second_text form items)

option_row : (asked name : OptionName) (value : Text) (rows : List Row) (values : WordList)
    → first_of (id_of asked) rows ≡ slice_get values 0
    → first_of (id_of asked) (one_row (id_of name) how value ∷ rows)
    ≡ slice_get (value_before asked name value values) 0
option_row Nodes Nodes value rows values same = refl
option_row Nodes Rounds value rows values same = same
option_row Rounds Nodes value rows values same = same
option_row Rounds Rounds value rows values same = refl

option_text : (form : Form) (place : Ordinal) (asked : OptionName) (items : List Item)
    → first_of (id_of asked) (item_rows form place items) ≡ slice_get (values_in asked items) 0
option_text form place asked [] = refl
option_text form place asked (Positional word ∷ items) =
    passed (id_of asked) (place_id form place) word (item_rows form (next place) items)
    (slice_get (values_in asked items) 0) (apart form place asked) (option_text form (next place) asked items)
option_text form place asked (TwoWords name value ∷ items) =
    option_row asked name value (item_rows form place items) (values_in asked items)
    (option_text form place asked items)
option_text form place asked (OneWord name value ∷ items) =
    option_row asked name value (item_rows form place items) (values_in asked items)
    (option_text form place asked items)

-- ---- words that fit the form

abbrev counts_fit : Form → Parts → Bool
counts_fit form parts = (length parts.positional == places form)
    && (nat_le (length parts.nodes) (times form) && nat_le (length parts.rounds) (times form))

room : (form : Form) (items : List Item) (parts : Parts)
    → parts ≡ clean (positional_in items) (values_in Nodes items) (values_in Rounds items)
    → counts_fit form parts ≡ true → HasRoomFor form First none_given items
room form items parts same fit =
    let counts = and_parts (length parts.positional == places form) _ fit in
    let options =
    and_parts (nat_le (length parts.nodes) (times form)) (nat_le (length parts.rounds) (times form)) counts.1 in
    let places_are : length (positional_in items) ≤ places form =
    subst (λ (p : Parts). length p.positional ≤ places form) same (grind (arith, nat_tests, counts.0)) in
    let nodes_are : length (values_in Nodes items) ≤ times form =
    subst (λ (p : Parts). length p.nodes ≤ times form) same (grind (arith, nat_tests, options.0)) in
    let rounds_are : length (values_in Rounds items) ≤ times form =
    subst (λ (p : Parts). length p.rounds ≤ times form) same (grind (arith, nat_tests, options.1)) in
    record { places_left = omega (arith, places_are); options_left = by_choice nodes_are rounds_are }
  where
    by_choice : length (values_in Nodes items) ≤ times form → length (values_in Rounds items) ≤ times form
        → (name : OptionName) → 0 + length (values_in name items) ≤ times form
    by_choice n r Nodes = omega (arith, n)
    by_choice n r Rounds = omega (arith, r)

-- what `clap` makes of words that fit, and that it takes them
pub record IsTaken (form : Form) (words : List Text) : Type 0 where
  pub items : List Item
  pub own : HaveTheirForm items
  pub written : words ≡ words_of items
  pub rows : matches_of (app form) words ≡ item_rows form First items
  pub takes : takes (app form) words ≡ true

pub is_taken : (form : Form) (words : List Text) → fits form (parts_of words) ≡ true → IsTaken form words
is_taken form words fit =
    let whole = and_parts (is_whole (parts_of words)) (counts_fit form (parts_of words)) fit in
    let items : Made words = made words [] [] [] whole.0 in
    let parts : parts_of words ≡ clean (positional_in items.0) (values_in Nodes items.0) (values_in Rounds items.0) =
    ap parts_of items.2 ∙ parts_are items.0 [] [] [] items.1 in
    let walk : Walks form (walk_from nothing_held) (words_of items.0) (item_rows form First items.0) =
    walks form items.0 First none_given nothing_held refl (nothing_stands form)
    (room form items.0 (parts_of words) parts whole.1) items.1 in
    let here = subst (λ (w : List Text). Walks form (walk_from nothing_held) w (item_rows form First items.0))
    (sym items.2) walk in
    record {
      items = items.0;
      own = items.1;
      written = items.2;
      rows = found form words (item_rows form First items.0) here;
      takes = takes_level form words (level form words (item_rows form First items.0) here);
    }

-- ---- the texts that `clap` found

abbrev Of : Option (Bor Text) → Option Text
Of = option_map (λ text. text.now)

-- the texts of the rows are those of the words
pub has_texts : (form : Form) (words : List Text) (found : Found) (taken : GivenTexts) → IsTaken form words
    → rows_of found ≡ matches_of (app form) words
    → Of taken.first ≡ first_value found (first_id form) → Of taken.second ≡ first_value found (codes "trips")
    → Of taken.nodes ≡ first_value found (codes "nodes") → Of taken.rounds ≡ first_value found (codes "rounds")
    → texts_in taken ≡ texts_of (parts_of words)
has_texts form words found taken is rows first second nodes rounds =
    let parts : parts_of words ≡ clean (positional_in is.items) (values_in Nodes is.items)
    (values_in Rounds is.items) = ap parts_of is.written ∙ parts_are is.items [] [] [] is.own in
    let in_rows : (id : Text) → first_value found id ≡ first_of id (item_rows form First is.items) =
    λ id. first_value-rows found id ∙ ap (λ (r : List Row). first_of id r) (rows ∙ is.rows) in
    let first_is : Of taken.first ≡ slice_get (positional_in is.items) 0 =
    first ∙ in_rows (first_id form) ∙ first_text form is.items in
    let second_is : Of taken.second ≡ slice_get (positional_in is.items) 1 =
    second ∙ in_rows (codes "trips") ∙ second_text form is.items in
    let nodes_are : Of taken.nodes ≡ slice_get (values_in Nodes is.items) 0 =
    nodes ∙ in_rows (codes "nodes") ∙ option_text form First Nodes is.items in
    let rounds_are : Of taken.rounds ≡ slice_get (values_in Rounds is.items) 0 =
    rounds ∙ in_rows (codes "rounds") ∙ option_text form First Rounds is.items in
    let texts : texts_in taken
    ≡ said (positional_in is.items) (values_in Nodes is.items) (values_in Rounds is.items) =
    rw (first_is, second_is, nodes_are, rounds_are) refl in
    texts ∙ sym (ap texts_of parts)
