-- The items of words by this crate's options, and by the names of any options.
use Rattle.std.proofs.Common.{◌≡◌, ◌≤◌, ◌∙◌, ℕ, true, false, List, [], ◌∷◌, ◌++◌, codes, length, refl, sym}
use Rattle.std.proofs.Common.{ap, subst, inl, inr, arith}
use Rattle.std.specs.Prelude.{◌&&◌, ◌==◌, nat_le}
use Rattle.std.specs.Str.{bytes_eq}
use Rattle.std.proofs.lemmas.Bool.{and_parts}
use Rattle.std.proofs.lemmas.Bool.Decides.{nat_tests}
use Rattle.std.proofs.lemmas.Slice.Eq.{bytes_eq-Decides}
use Rattle.plain_words.specs.Items as plain
use Rattle.plain_words.specs.Items.{IsPlain, IsValued, WordList, has}
use Rattle.plain_words.specs.Reading.{are_once}
use Rattle.plain_words.proofs.Once.{once_all}
use Rattle.plain_words.proofs.Spelled.{le_of, le_true}
use Rattle.command_line.specs.declared.form.OptionName.{OptionName}
use Rattle.command_line.specs.declared.form.OptionName.TheVariants.{Nodes, Rounds}
use Rattle.command_line.specs.declared.form.Form.{Form}
use Rattle.command_line.specs.declared.form.Form.TheVariants.{Folder, FolderSearch, DaySearch}
use Rattle.command_line.specs.Forms.{SaysItems, form_of, items_said, search_options}
use Rattle.command_line.specs.Parts.{fits, parts_of, places, times}
use Rattle.command_line.specs.Texts.{Texts, said, texts_of}
use Rattle.command_line.proofs.OptionItems.{Item, Positional, TwoWords, OneWord, HaveTheirForm, option_name}
use Rattle.command_line.proofs.OptionItems.{positional_in, value_before, values_in, words_of}
use Rattle.command_line.proofs.PlainForms.{Made, cases, clean, made, parts_are, is_whole}

-- ---- by the names of options

abbrev pub named : Item → plain.Item
named (Positional word) = plain.Positional word
named (TwoWords name value) = plain.TwoWords (option_name name) value
named (OneWord name value) = plain.OneWord (option_name name) value

abbrev pub all_named : List Item → List plain.Item
all_named [] = []
all_named (item ∷ items) = named item ∷ all_named items

pub words_same : (items : List Item) → plain.words_of (all_named items) ≡ words_of items
words_same [] = refl
words_same (Positional word ∷ items) = ap (λ (ws : WordList). word ∷ ws) (words_same items)
words_same (TwoWords name value ∷ items) =
    ap (λ (ws : WordList). option_name name ∷ value ∷ ws) (words_same items)
words_same (OneWord name value ∷ items) =
    ap (λ (ws : WordList). (option_name name ++ (codes "=" ++ value)) ∷ ws) (words_same items)

pub positional_same : (items : List Item) → plain.positional_in (all_named items) ≡ positional_in items
positional_same [] = refl
positional_same (Positional word ∷ items) = ap (λ (ws : WordList). word ∷ ws) (positional_same items)
positional_same (TwoWords name value ∷ items) = positional_same items
positional_same (OneWord name value ∷ items) = positional_same items

pub values_same : (asked : OptionName) (items : List Item)
    → plain.values_in (option_name asked) (all_named items) ≡ values_in asked items
values_same asked [] = refl
values_same asked (Positional word ∷ items) = values_same asked items
values_same Nodes (TwoWords Nodes value ∷ items) = ap (λ (vs : WordList). value ∷ vs) (values_same Nodes items)
values_same Nodes (TwoWords Rounds value ∷ items) = values_same Nodes items
values_same Rounds (TwoWords Nodes value ∷ items) = values_same Rounds items
values_same Rounds (TwoWords Rounds value ∷ items) = ap (λ (vs : WordList). value ∷ vs) (values_same Rounds items)
values_same Nodes (OneWord Nodes value ∷ items) = ap (λ (vs : WordList). value ∷ vs) (values_same Nodes items)
values_same Nodes (OneWord Rounds value ∷ items) = values_same Nodes items
values_same Rounds (OneWord Nodes value ∷ items) = values_same Rounds items
values_same Rounds (OneWord Rounds value ∷ items) = ap (λ (vs : WordList). value ∷ vs) (values_same Rounds items)

times_same : (asked : OptionName) (items : List Item)
    → plain.times (option_name asked) (all_named items) ≡ length (values_in asked items)
times_same asked [] = refl
times_same asked (Positional word ∷ items) = times_same asked items
times_same Nodes (TwoWords Nodes value ∷ items) = omega (arith, times_same Nodes items)
times_same Nodes (TwoWords Rounds value ∷ items) = times_same Nodes items
times_same Rounds (TwoWords Nodes value ∷ items) = times_same Rounds items
times_same Rounds (TwoWords Rounds value ∷ items) = omega (arith, times_same Rounds items)
times_same Nodes (OneWord Nodes value ∷ items) = omega (arith, times_same Nodes items)
times_same Nodes (OneWord Rounds value ∷ items) = times_same Nodes items
times_same Rounds (OneWord Nodes value ∷ items) = times_same Rounds items
times_same Rounds (OneWord Rounds value ∷ items) = omega (arith, times_same Rounds items)

-- ---- as many as the form wants

pub record IsSized (form : Form) (p n r : WordList) : Type 0 where
  pub as_many : length p ≡ places form
  pub few_nodes : length n ≤ times form
  pub few_rounds : length r ≤ times form

pub sized : (form : Form) (p n r : WordList) → fits form (clean p n r) ≡ true → IsSized form p n r
sized form p n r fit =
    let first = and_parts (length p == places form) (nat_le (length n) (times form) && nat_le (length r) (times form)) fit in
    let second = and_parts (nat_le (length n) (times form)) (nat_le (length r) (times form)) first.1 in
    record {
      as_many = grind (arith, nat_tests, first.0);
      few_nodes = le_of (length n) (times form) second.0;
      few_rounds = le_of (length r) (times form) second.1;
    }

pub fits_so : (form : Form) (p n r : WordList) → IsSized form p n r → fits form (clean p n r) ≡ true
fits_so form p n r is =
    let many : (length p == places form) ≡ true = grind (arith, nat_tests, is.as_many) in
    let nodes : nat_le (length n) (times form) ≡ true = le_true (length n) (times form) is.few_nodes in
    let rounds : nat_le (length r) (times form) ≡ true = le_true (length r) (times form) is.few_rounds in
    rw (many, nodes, rounds) refl

-- ---- words that fit are of the form

valued : (form : Form) (name : OptionName) → 1 ≤ times form → IsValued (form_of form) (option_name name)
valued Folder name one = absurd (omega (arith, one))
valued FolderSearch Nodes one = record { dashed = refl; whole = refl; named = refl }
valued FolderSearch Rounds one = record { dashed = refl; whole = refl; named = refl }
valued DaySearch Nodes one = record { dashed = refl; whole = refl; named = refl }
valued DaySearch Rounds one = record { dashed = refl; whole = refl; named = refl }

one_value : (name : OptionName) (value : List ℕ) (values : WordList) → 1 ≤ length (value_before name name value values)
one_value Nodes value values = omega arith
one_value Rounds value values = omega arith

no_more : (asked name : OptionName) (value : List ℕ) (values : WordList)
    → length values ≤ length (value_before asked name value values)
no_more Nodes Nodes value values = omega arith
no_more Nodes Rounds value values = omega arith
no_more Rounds Nodes value values = omega arith
no_more Rounds Rounds value values = omega arith

option_own : (form : Form) (name : OptionName) (value : List ℕ) (items : List Item)
    → ((asked : OptionName) → length (value_before asked name value (values_in asked items)) ≤ times form)
    → IsValued (form_of form) (option_name name) × ((asked : OptionName) → length (values_in asked items) ≤ times form)
option_own form name value items few = (
  valued form name (omega (arith, one_value name value (values_in name items), few name)),
  λ asked. omega (arith, no_more asked name value (values_in asked items), few asked),
)

own_named : (form : Form) (items : List Item) → HaveTheirForm items
    → ((asked : OptionName) → length (values_in asked items) ≤ times form)
    → plain.HaveTheirForm (form_of form) (all_named items)
own_named form [] own few = tt
own_named form (Positional word ∷ items) own few = (own.0, own_named form items own.1 few)
own_named form (TwoWords name value ∷ items) own few =
    let both = option_own form name value items few in ((both.0, own.0), own_named form items own.1 both.1)
own_named form (OneWord name value ∷ items) own few =
    let both = option_own form name value items few in (both.0, own_named form items own.1 both.1)

once_named : (form : Form) (items : List Item) → length (values_in Nodes items) ≤ times form
    → length (values_in Rounds items) ≤ times form → are_once (form_of form).valued (all_named items) ≡ true
once_named Folder items nodes rounds = refl
once_named FolderSearch items nodes rounds =
    let first = le_true (plain.times (codes "--nodes") (all_named items)) 1 (omega (arith, times_same Nodes items, nodes)) in
    let second = le_true (plain.times (codes "--rounds") (all_named items)) 1 (omega (arith, times_same Rounds items, rounds)) in
    rw (first, second) refl
once_named DaySearch items nodes rounds =
    let first = le_true (plain.times (codes "--nodes") (all_named items)) 1 (omega (arith, times_same Nodes items, nodes)) in
    let second = le_true (plain.times (codes "--rounds") (all_named items)) 1 (omega (arith, times_same Rounds items, rounds)) in
    rw (first, second) refl

no_flags : (form : Form) (items : List plain.Item) → are_once (form_of form).flags items ≡ true
no_flags Folder items = refl
no_flags FolderSearch items = refl
no_flags DaySearch items = refl

places_same : (form : Form) → (form_of form).places ≡ places form
places_same Folder = refl
places_same FolderSearch = refl
places_same DaySearch = refl

-- the items of words that fit, and the form that they are of
pub record AsItems (form : Form) (words : WordList) : Type 0 where
  pub items : List Item
  pub own : HaveTheirForm items
  pub written : words ≡ words_of items
  pub size : IsSized form (positional_in items) (values_in Nodes items) (values_in Rounds items)

pub as_items : (form : Form) (words : WordList) → fits form (parts_of words) ≡ true → AsItems form words
as_items form words fit =
    let items : Made words = made words [] [] [] (and_parts (is_whole (parts_of words)) _ fit).0 in
    let parts : parts_of words ≡ clean (positional_in items.0) (values_in Nodes items.0) (values_in Rounds items.0) =
    ap parts_of items.2 ∙ parts_are items.0 [] [] [] items.1 in
    record {
      items = items.0;
      own = items.1;
      written = items.2;
      size = sized form (positional_in items.0) (values_in Nodes items.0) (values_in Rounds items.0)
          (ap (fits form) (sym parts) ∙ fit);
    }

pub items_plain : (form : Form) (words : WordList) (as_made : AsItems form words)
    → IsPlain (form_of form) words (all_named as_made.items)
items_plain form words as_made =
    let own : plain.HaveTheirForm (form_of form) (all_named as_made.items) =
    own_named form as_made.items as_made.own (by_choice as_made.size.few_nodes as_made.size.few_rounds) in
    record {
      written = as_made.written ∙ sym (words_same as_made.items);
      own = own;
      places = ap length (positional_same as_made.items) ∙ as_made.size.as_many ∙ sym (places_same form);
      once = once_all (form_of form) (all_named as_made.items) own
          (once_named form as_made.items as_made.size.few_nodes as_made.size.few_rounds)
          (no_flags form (all_named as_made.items));
    }
  where
    by_choice : length (values_in Nodes as_made.items) ≤ times form
        → length (values_in Rounds as_made.items) ≤ times form → (asked : OptionName)
        → length (values_in asked as_made.items) ≤ times form
    by_choice n r Nodes = n
    by_choice n r Rounds = r

-- ---- words of the form fit

known : (name : List ℕ) → has name search_options ≡ true → (own : OptionName) × (option_name own ≡ name)
known name among = elim (cases (bytes_eq (codes "--nodes") name)) [
  | inl same ↦ (Nodes, (bytes_eq-Decides (codes "--nodes") name).0 same)
  | inr apart ↦ elim (cases (bytes_eq (codes "--rounds") name)) [
    | inl same ↦ (Rounds, (bytes_eq-Decides (codes "--rounds") name).0 same)
    | inr other ↦ let none : has name search_options ≡ false = rw (apart, other) refl in
        let never : true ≡ false = sym among ∙ none in absurd cc
  ]
]

known_of : (form : Form) (name : List ℕ) → has name (form_of form).valued ≡ true
    → (own : OptionName) × (option_name own ≡ name)
known_of Folder name among = absurd cc
known_of FolderSearch name among = known name among
known_of DaySearch name among = known name among

no_flag : (form : Form) (name : List ℕ) → has name (form_of form).flags ≡ true → ⊥
no_flag Folder name among = absurd cc
no_flag FolderSearch name among = absurd cc
no_flag DaySearch name among = absurd cc

-- items of the form are items by this crate's options
abbrev pub IsOwn : List plain.Item → Type 0
IsOwn items = (own : List Item) × HaveTheirForm own × (all_named own ≡ items)

pub as_own : (form : Form) (items : List plain.Item) → plain.HaveTheirForm (form_of form) items → IsOwn items
as_own form [] have = ([], tt, refl)
as_own form (plain.Positional word ∷ items) have =
    let rest = as_own form items have.1 in
    (Positional word ∷ rest.0, (have.0, rest.1), ap (λ (is : List plain.Item). plain.Positional word ∷ is) rest.2)
as_own form (plain.TwoWords name value ∷ items) have =
    let rest = as_own form items have.1 in
    let own = known_of form name have.0.0.named in (
      TwoWords own.0 value ∷ rest.0,
      (have.0.1, rest.1),
      ap (λ (n : List ℕ). plain.TwoWords n value ∷ all_named rest.0) own.1
          ∙ ap (λ (is : List plain.Item). plain.TwoWords name value ∷ is) rest.2,
    )
as_own form (plain.OneWord name value ∷ items) have =
    let rest = as_own form items have.1 in
    let own = known_of form name have.0.named in (
      OneWord own.0 value ∷ rest.0,
      (tt, rest.1),
      ap (λ (n : List ℕ). plain.OneWord n value ∷ all_named rest.0) own.1
          ∙ ap (λ (is : List plain.Item). plain.OneWord name value ∷ is) rest.2,
    )
as_own form (plain.Alone name ∷ items) have = absurd (no_flag form name have.0.named)

folder_values : (asked : OptionName) (items : List Item) → plain.HaveTheirForm (form_of Folder) (all_named items)
    → length (values_in asked items) ≤ 0
folder_values asked [] have = omega arith
folder_values asked (Positional word ∷ items) have = folder_values asked items have.1
folder_values asked (TwoWords name value ∷ items) have = let never : false ≡ true = have.0.0.named in absurd cc
folder_values asked (OneWord name value ∷ items) have = let never : false ≡ true = have.0.named in absurd cc

few_values : (form : Form) (asked : OptionName) (items : List Item)
    → plain.HaveTheirForm (form_of form) (all_named items)
    → plain.times (option_name asked) (all_named items) ≤ 1 → length (values_in asked items) ≤ times form
few_values Folder asked items have once = folder_values asked items have
few_values FolderSearch asked items have once = omega (arith, times_same asked items, once)
few_values DaySearch asked items have once = omega (arith, times_same asked items, once)

named_items : (form : Form) (words : WordList) (own : List Item) → HaveTheirForm own
    → IsPlain (form_of form) words (all_named own) → AsItems form words
named_items form words own have is = record {
  items = own;
  own = have;
  written = is.written ∙ words_same own;
  size = record {
    as_many = ap length (sym (positional_same own)) ∙ is.places ∙ places_same form;
    few_nodes = few_values form Nodes own is.own (is.once (codes "--nodes"));
    few_rounds = few_values form Rounds own is.own (is.once (codes "--rounds"));
  };
}

-- the items of words of the form by this crate's options, and that they are those
pub record OwnItems (form : Form) (words : WordList) (items : List plain.Item) : Type 0 where
  pub found : AsItems form words
  pub same : all_named found.items ≡ items

pub own_items : (form : Form) (words : WordList) (items : List plain.Item) → IsPlain (form_of form) words items
    → OwnItems form words items
unfolding named_items
own_items form words items is =
    let own = as_own form items is.own in
    record {
      found = named_items form words own.0 own.1
          (subst (λ (all : List plain.Item). IsPlain (form_of form) words all) (sym own.2) is);
      same = own.2;
    }

pub as_parts : (form : Form) (words : WordList) (of_words : AsItems form words)
    → parts_of words ≡ clean (positional_in of_words.items) (values_in Nodes of_words.items)
    (values_in Rounds of_words.items)
as_parts form words of_words = ap parts_of of_words.written ∙ parts_are of_words.items [] [] [] of_words.own

pub plain_fits : (form : Form) (words : WordList) (items : List plain.Item) → IsPlain (form_of form) words items
    → fits form (parts_of words) ≡ true
plain_fits form words items is =
    let own = own_items form words items is in
    ap (fits form) (as_parts form words own.found)
    ∙ fits_so form (positional_in own.found.items) (values_in Nodes own.found.items)
    (values_in Rounds own.found.items) own.found.size

-- what the items say
pub said_same : (items : List Item)
    → items_said (all_named items) ≡ said (positional_in items) (values_in Nodes items) (values_in Rounds items)
said_same items = rw (positional_same items, values_same Nodes items, values_same Rounds items) refl

pub says_items : (form : Form) (words : WordList) (texts : Texts) → texts ≡ texts_of (parts_of words)
    → SaysItems form words texts
says_items form words texts is items plain_so =
    let own = own_items form words items plain_so in
    is ∙ ap texts_of (as_parts form words own.found) ∙ sym (said_same own.found.items) ∙ ap items_said own.same
