-- The walk over the words of items: what is settled after them, and that each step passes.
use Rattle.std.proofs.Common.{ℕ, ◌≡◌, ◌≤◌, ◌+◌, ◌∙◌, refl, ap, sym, subst, List, [], ◌∷◌, ◌++◌, Bool, true, false}
use Rattle.std.proofs.Common.{codes, Some, None, append-nil, append_assoc, length, arith}
use Rattle.std.specs.Prelude.{◌||◌, ◌==◌, fold, not}
use Rattle.std.specs.Str.{bytes_eq}
use Rattle.std.proofs.lemmas.Bool.{and_from}
use Rattle.clap.specs.Walk.{Row, Text, Held, Walk, has_row, used, walked}
use Rattle.clap.specs.Takes.{settle_passes, turn_passes, walk_passes}
use Rattle.command_line.specs.declared.form.OptionName.{OptionName}
use Rattle.command_line.specs.declared.form.OptionName.TheVariants.{Nodes, Rounds}
use Rattle.command_line.specs.declared.form.Form.{Form}
use Rattle.command_line.specs.declared.form.Form.TheVariants.{Folder, FolderSearch, DaySearch}
use Rattle.plain_words.specs.Items.{WordList}
use Rattle.command_line.proofs.OptionItems.{Item, Positional, TwoWords, OneWord, HaveTheirForm}
use Rattle.plain_words.specs.Items.{is_positional}
use Rattle.command_line.proofs.OptionItems.{option_name, positional_in, value_before, values_in, words_of}
use Rattle.command_line.specs.Parts.{places, times}
use Rattle.command_line.proofs.Rows.{has_row-more, one_row, put_is}
use Rattle.command_line.proofs.Stepping.{Ordinal, First, Second, Third, position, next, has_place, place_id, rules}
use Rattle.command_line.proofs.Stepping.{has_options, id_of, rule_for, settle, stand, await, hold, name_step}
use Rattle.command_line.proofs.Stepping.{positional_step, value_step, whole_step}
use Rattle.command_line.proofs.Passing.{how, shape, name_passes_here, place_settles, positional_passes_here}
use Rattle.command_line.proofs.Passing.{settled_place, settled_value, settled_whole, value_passes_here, value_settles}
use Rattle.command_line.proofs.Passing.{whole_passes_here}

-- ---- the rows of items

abbrev pub item_rows : Form → Ordinal → List Item → List Row
item_rows form place [] = []
item_rows form place (Positional word ∷ items) =
    one_row (place_id form place) how word ∷ item_rows form (next place) items
item_rows form place (TwoWords name value ∷ items) = one_row (id_of name) how value ∷ item_rows form place items
item_rows form place (OneWord name value ∷ items) = one_row (id_of name) how value ∷ item_rows form place items

-- ---- which arguments have their row already

abbrev pub before : Ordinal → Ordinal → Bool
before First First = false
before First Second = true
before First Third = true
before Second First = false
before Second Second = false
before Second Third = true
before Third place = false

abbrev same_name : OptionName → OptionName → Bool
same_name Nodes Nodes = true
same_name Nodes Rounds = false
same_name Rounds Nodes = false
same_name Rounds Rounds = true

pub record Stands (form : Form) (place : Ordinal) (given : OptionName → Bool) (rows : List Row) : Type 0 where
  pub options : (name : OptionName) → has_row (id_of name) rows ≡ given name
  pub places : (other : Ordinal) → has_place form other ≡ true → has_row (place_id form other) rows ≡ before other place

abbrev with_given : OptionName → (OptionName → Bool) → OptionName → Bool
with_given name given other = given other || same_name name other

or_false : (b : Bool) → (b || false) ≡ b
or_false true = refl
or_false false = refl

not_before : (place : Ordinal) → before place place ≡ false
not_before First = refl
not_before Second = refl
not_before Third = refl

-- names of options are no names of positional words
pub apart : (form : Form) (place : Ordinal) (name : OptionName) → bytes_eq (place_id form place) (id_of name) ≡ false
apart Folder First Nodes = refl
apart Folder First Rounds = refl
apart FolderSearch First Nodes = refl
apart FolderSearch First Rounds = refl
apart DaySearch First Nodes = refl
apart DaySearch First Rounds = refl
apart form Second Nodes = refl
apart form Second Rounds = refl
apart form Third Nodes = refl
apart form Third Rounds = refl

pub apart_too : (form : Form) (place : Ordinal) (name : OptionName) → bytes_eq (id_of name) (place_id form place) ≡ false
apart_too Folder First Nodes = refl
apart_too Folder First Rounds = refl
apart_too FolderSearch First Nodes = refl
apart_too FolderSearch First Rounds = refl
apart_too DaySearch First Nodes = refl
apart_too DaySearch First Rounds = refl
apart_too form Second Nodes = refl
apart_too form Second Rounds = refl
apart_too form Third Nodes = refl
apart_too form Third Rounds = refl

pub same_id : (name other : OptionName) → bytes_eq (id_of name) (id_of other) ≡ same_name name other
same_id Nodes Nodes = refl
same_id Nodes Rounds = refl
same_id Rounds Nodes = refl
same_id Rounds Rounds = refl

next_place : (form : Form) (place other : Ordinal) → has_place form place ≡ true → has_place form other ≡ true
    → (before other place || bytes_eq (place_id form place) (place_id form other)) ≡ before other (next place)
next_place Folder First First has there = refl
next_place Folder First Second has none = absurd cc
next_place Folder First Third has none = absurd cc
next_place Folder Second other none there = absurd cc
next_place Folder Third other none there = absurd cc
next_place FolderSearch First First has there = refl
next_place FolderSearch First Second has none = absurd cc
next_place FolderSearch First Third has none = absurd cc
next_place FolderSearch Second other none there = absurd cc
next_place FolderSearch Third other none there = absurd cc
next_place DaySearch First First has there = refl
next_place DaySearch First Second has there = refl
next_place DaySearch First Third has none = absurd cc
next_place DaySearch Second First has there = refl
next_place DaySearch Second Second has there = refl
next_place DaySearch Second Third has none = absurd cc
next_place DaySearch Third other none there = absurd cc

grown : (asked id v : Text) (rows : List Row) (was same now : Bool) → has_row asked rows ≡ was
    → bytes_eq id asked ≡ same → (was || same) ≡ now → has_row asked (rows ++ one_row id how v ∷ []) ≡ now
grown asked id v rows was same now had is sum =
    has_row-more asked id how v rows ∙ ap (λ (b : Bool). b || bytes_eq id asked) had
    ∙ ap (λ (b : Bool). was || b) is ∙ sum

after_place : (form : Form) (place : Ordinal) (given : OptionName → Bool) (rows : List Row) (v : Text)
    → has_place form place ≡ true → Stands form place given rows
    → Stands form (next place) given (rows ++ one_row (place_id form place) how v ∷ [])
after_place form place given rows v has stands = record {
  options = λ name. grown (id_of name) (place_id form place) v rows (given name) false (given name)
      (stands.options name) (apart form place name) (or_false (given name));
  places = λ other there. grown (place_id form other) (place_id form place) v rows (before other place)
      (bytes_eq (place_id form place) (place_id form other)) (before other (next place))
      (stands.places other there) refl (next_place form place other has there);
}

after_option : (form : Form) (place : Ordinal) (given : OptionName → Bool) (rows : List Row) (name : OptionName) (v : Text)
    → Stands form place given rows
    → Stands form place (with_given name given) (rows ++ one_row (id_of name) how v ∷ [])
after_option form place given rows name v stands = record {
  options = λ other. grown (id_of other) (id_of name) v rows (given other) (same_name name other)
      (given other || same_name name other) (stands.options other) (same_id name other) refl;
  places = λ other there. grown (place_id form other) (id_of name) v rows (before other place) false
      (before other place) (stands.places other there) (apart_too form other name) (or_false (before other place));
}

-- ---- how many more there may be

abbrev number : Ordinal → ℕ
number First = 0
number Second = 1
number Third = 2

abbrev bit : Bool → ℕ
bit false = 0
bit true = 1

pub record HasRoomFor (form : Form) (place : Ordinal) (given : OptionName → Bool) (items : List Item) : Type 0 where
  pub places_left : number place + length (positional_in items) ≤ places form
  pub options_left : (name : OptionName) → bit (given name) + length (values_in name items) ≤ times form

has_it : (form : Form) (place : Ordinal) (n : ℕ) → number place + (n + 1) ≤ places form → has_place form place ≡ true
has_it Folder First n room = refl
has_it Folder Second n room = absurd (omega (arith, room))
has_it Folder Third n room = absurd (omega (arith, room))
has_it FolderSearch First n room = refl
has_it FolderSearch Second n room = absurd (omega (arith, room))
has_it FolderSearch Third n room = absurd (omega (arith, room))
has_it DaySearch First n room = refl
has_it DaySearch Second n room = refl
has_it DaySearch Third n room = absurd (omega (arith, room))

next_number : (form : Form) (place : Ordinal) (n : ℕ) → has_place form place ≡ true
    → number place + (n + 1) ≤ places form → number (next place) + n ≤ places form
next_number form First n has room = omega (arith, room)
next_number form Second n has room = omega (arith, room)
next_number Folder Third n none room = absurd cc
next_number FolderSearch Third n none room = absurd cc
next_number DaySearch Third n none room = absurd cc

is_free : (form : Form) (name : OptionName) (given : Bool) (v : Text) (vs : WordList)
    → bit given + length (value_before name name v vs) ≤ times form
    → (given ≡ false) × (has_options form ≡ true)
is_free Folder Nodes given v vs room = absurd (omega (arith, room))
is_free Folder Rounds given v vs room = absurd (omega (arith, room))
is_free FolderSearch Nodes false v vs room = (refl, refl)
is_free FolderSearch Nodes true v vs room = absurd (omega (arith, room))
is_free FolderSearch Rounds false v vs room = (refl, refl)
is_free FolderSearch Rounds true v vs room = absurd (omega (arith, room))
is_free DaySearch Nodes false v vs room = (refl, refl)
is_free DaySearch Nodes true v vs room = absurd (omega (arith, room))
is_free DaySearch Rounds false v vs room = (refl, refl)
is_free DaySearch Rounds true v vs room = absurd (omega (arith, room))

one_less : (name other : OptionName) (given : Bool) (v : Text) (vs : WordList) (n : ℕ)
    → bit given + length (value_before other name v vs) ≤ n → bit (given || same_name name other) + length vs ≤ n
one_less Nodes Nodes false v vs n room = omega (arith, room)
one_less Nodes Nodes true v vs n room = omega (arith, room)
one_less Nodes Rounds false v vs n room = room
one_less Nodes Rounds true v vs n room = room
one_less Rounds Nodes false v vs n room = room
one_less Rounds Nodes true v vs n room = room
one_less Rounds Rounds false v vs n room = omega (arith, room)
one_less Rounds Rounds true v vs n room = omega (arith, room)

-- ---- the walk

-- the walk goes over the words, each step passes, and these are the rows then
pub record Walks (form : Form) (from : Walk) (words : List Text) (rows : List Row) : Type 0 where
  pub end : Held
  pub at : ℕ
  pub stops : fold (walked (rules form) []) from words ≡ stand end at
  pub settled : settle form end ≡ rows
  pub end_passes : settle_passes (rules form) false end ≡ true
  pub passes : walk_passes (shape form) [] from words ≡ true

no_more : (form : Form) (h : Held) (at : ℕ) → settle_passes (rules form) false h ≡ true
    → Walks form (stand h at) [] (settle form h ++ [])
unfolding walk_passes
no_more form h at settles = record {
  end = h;
  at = at;
  stops = refl;
  settled = sym (append-nil (settle form h));
  end_passes = settles;
  passes = refl;
}

one_more : (form : Form) (from after : Walk) (word : Text) (words : List Text) (rows later : List Row)
    → walked (rules form) [] from word ≡ after → turn_passes (shape form) [] from word ≡ true → later ≡ rows
    → Walks form after words later → Walks form from (word ∷ words) rows
unfolding walk_passes
one_more form from after word words rows later is turn same rest = record {
  end = rest.end;
  at = rest.at;
  stops = ap (λ (w : Walk). fold (walked (rules form) []) w words) is ∙ rest.stops;
  settled = rest.settled ∙ same;
  end_passes = rest.end_passes;
  passes = and_from _ _ turn (ap (λ (w : Walk). walk_passes (shape form) [] w words) is ∙ rest.passes);
}

no_dash : (x : ℕ) (xs : List ℕ) → is_positional (x ∷ xs) ≡ true → (x == 45) ≡ false
no_dash x xs holds = from (x == 45) holds
  where
    from : (b : Bool) → not b ≡ true → b ≡ false
    from true e = absurd cc
    from false e = refl

pub walks : (form : Form) (items : List Item) (place : Ordinal) (given : OptionName → Bool) (h : Held)
    → settle_passes (rules form) false h ≡ true → Stands form place given (settle form h)
    → HasRoomFor form place given items → HaveTheirForm items
    → Walks form (stand h (position place)) (words_of items) (settle form h ++ item_rows form place items)
walks form [] place given h settles stands room own = no_more form h (position place) settles
walks form (Positional [] ∷ items) place given h settles stands room own = absurd cc
walks form (Positional (x ∷ xs) ∷ items) place given h settles stands room own =
    let rows : List Row = settle form h in
    let left : number place + (length (positional_in items) + 1) ≤ places form = omega (arith, room.places_left) in
    let has : has_place form place ≡ true = has_it form place (length (positional_in items)) left in
    let plain : (x == 45) ≡ false = no_dash x xs own.0 in
    let id : Text = place_id form place in
    let after : Held = hold rows (Some (id, (x ∷ xs) ∷ [])) h in
    let new : has_row id rows ≡ false = stands.places place has ∙ not_before place in
    let row : settle form after ≡ rows ++ one_row id how (x ∷ xs) ∷ [] =
    settled_place form place has rows h (x ∷ xs) ∙ put_is id how (x ∷ xs) rows new in
    let rest = walks form items (next place) given after (place_settles form place has rows h (x ∷ xs) new)
    (subst (λ (r : List Row). Stands form (next place) given r) (sym row)
    (after_place form place given rows (x ∷ xs) has stands))
    (record {
      places_left = next_number form place (length (positional_in items)) has left;
      options_left = room.options_left;
    }) own.1 in
    one_more form (stand h (position place)) (stand after (position (next place))) (x ∷ xs) (words_of items)
    (rows ++ item_rows form place (Positional (x ∷ xs) ∷ items))
    (settle form after ++ item_rows form (next place) items)
    (positional_step form place has h x xs plain) (positional_passes_here form place has h x xs plain settles)
    (ap (λ (r : List Row). r ++ item_rows form (next place) items) row
    ∙ append_assoc rows (one_row id how (x ∷ xs) ∷ []) (item_rows form (next place) items)) rest
walks form (TwoWords name [] ∷ items) place given h settles stands room own = absurd cc
walks form (TwoWords name (x ∷ xs) ∷ items) place given h settles stands room own =
    let rows : List Row = settle form h in
    let id : Text = id_of name in
    let free = is_free form name (given name) (x ∷ xs) (values_in name items) (room.options_left name) in
    let has : has_options form ≡ true = free.1 in
    let plain : (x == 45) ≡ false = no_dash x xs own.0 in
    let new : has_row id rows ≡ false = stands.options name ∙ free.0 in
    let opened : Held = hold rows (Some (id, [])) h in
    let after : Held = hold rows (Some (id, (x ∷ xs) ∷ [])) h in
    let row : settle form after ≡ rows ++ one_row id how (x ∷ xs) ∷ [] =
    settled_value form name has rows h (x ∷ xs) ∙ put_is id how (x ∷ xs) rows new in
    let rest = walks form items place (with_given name given) after
    (value_settles form name has rows h (x ∷ xs) new)
    (subst (λ (r : List Row). Stands form place (with_given name given) r) (sym row)
    (after_option form place given rows name (x ∷ xs) stands))
    (record {
      places_left = room.places_left;
      options_left = λ other. one_less name other (given other) (x ∷ xs) (values_in other items) (times form)
          (room.options_left other);
    }) own.1 in
    let all : List Row = rows ++ item_rows form place (TwoWords name (x ∷ xs) ∷ items) in
    one_more form (stand h (position place)) (await name opened (position place)) (option_name name)
    ((x ∷ xs) ∷ words_of items) all all
    (name_step form name has h (position place)) (name_passes_here form name has h (position place) settles) refl
    (one_more form (await name opened (position place)) (stand after (position place)) (x ∷ xs) (words_of items)
    all (settle form after ++ item_rows form place items)
    (value_step form name has rows h (position place) x xs plain)
    (value_passes_here form name has rows h (position place) x xs plain)
    (ap (λ (r : List Row). r ++ item_rows form place items) row
    ∙ append_assoc rows (one_row id how (x ∷ xs) ∷ []) (item_rows form place items)) rest)
walks form (OneWord name value ∷ items) place given h settles stands room own =
    let rows : List Row = settle form h in
    let id : Text = id_of name in
    let free = is_free form name (given name) value (values_in name items) (room.options_left name) in
    let has : has_options form ≡ true = free.1 in
    let new : has_row id rows ≡ false = stands.options name ∙ free.0 in
    let after : Held = hold (used (rule_for name) (value ∷ []) rows) None h in
    let row : settle form after ≡ rows ++ one_row id how value ∷ [] =
    settled_whole name rows value ∙ put_is id how value rows new in
    let rest = walks form items place (with_given name given) after refl
    (subst (λ (r : List Row). Stands form place (with_given name given) r) (sym row)
    (after_option form place given rows name value stands))
    (record {
      places_left = room.places_left;
      options_left = λ other. one_less name other (given other) value (values_in other items) (times form)
          (room.options_left other);
    }) own.1 in
    one_more form (stand h (position place)) (stand after (position place))
    (option_name name ++ (codes "=" ++ value)) (words_of items)
    (rows ++ item_rows form place (OneWord name value ∷ items)) (settle form after ++ item_rows form place items)
    (whole_step form name has h (position place) value)
    (whole_passes_here form name has h (position place) value settles new)
    (ap (λ (r : List Row). r ++ item_rows form place items) row
    ∙ append_assoc rows (one_row id how value ∷ []) (item_rows form place items)) rest
