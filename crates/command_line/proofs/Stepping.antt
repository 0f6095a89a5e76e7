-- One step of the walk over words, for each kind of word: where it stands then.
use Rattle.std.proofs.Common.{ℕ, ◌≡◌, ◌∙◌, refl, ap, List, [], ◌∷◌, ◌++◌, Bool, true, false, codes, Some, None}
use Rattle.std.proofs.Common.{cond, Option}
use Rattle.std.specs.Prelude.{◌&&◌, ◌==◌, option_and_then}
use Rattle.std.specs.Option.{option_map_or}
use Rattle.std.specs.Str.{bytes_eq}
use Rattle.clap.specs.Lexer.{long_of, short_of, long_of_rest, short_of_rest, strip_byte}
use Rattle.clap.specs.Walk.{Waiting, Step, option, trailing, after_step, long_or_other, short_or_plain, plain_word}
use Rattle.clap.specs.Walk.{pushed, settled, Rule, Row, Text, Held, Walk, walked, settled_rows, used, idle}
use Rattle.clap.specs.Simple.{filled, built}
use Rattle.command_line.specs.declared.form.OptionName.{OptionName}
use Rattle.command_line.specs.declared.form.OptionName.TheVariants.{Nodes, Rounds}
use Rattle.command_line.specs.declared.form.Form.{Form}
use Rattle.command_line.specs.declared.form.Form.TheVariants.{Folder, FolderSearch, DaySearch}
use Rattle.command_line.specs.Apps.{first_id, nodes_rule, rounds_rule, app}
use Rattle.command_line.proofs.OptionItems.{option_name}

-- the rules by which words are read
abbrev pub rules : Form → List Rule
rules form = (built (app form)).top.rules

-- ---- where the walk stands

-- how many positional words came before
pub data Ordinal : Type 0 where
  First : Ordinal
  Second : Ordinal
  Third : Ordinal

abbrev pub position : Ordinal → ℕ
position First = 1
position Second = 2
position Third = 3

abbrev pub next : Ordinal → Ordinal
next First = Second
next Second = Third
next Third = Third

-- the form has a positional word at this place
abbrev pub has_place : Form → Ordinal → Bool
has_place Folder First = true
has_place Folder Second = false
has_place Folder Third = false
has_place FolderSearch First = true
has_place FolderSearch Second = false
has_place FolderSearch Third = false
has_place DaySearch First = true
has_place DaySearch Second = true
has_place DaySearch Third = false

abbrev pub place_id : Form → Ordinal → Text
place_id form First = first_id form
place_id form Second = codes "trips"
place_id form Third = codes "trips"

abbrev pub has_options : Form → Bool
has_options Folder = false
has_options FolderSearch = true
has_options DaySearch = true

abbrev pub id_of : OptionName → Text
id_of Nodes = codes "nodes"
id_of Rounds = codes "rounds"

abbrev pub rule_for : OptionName → Rule
rule_for Nodes = filled nodes_rule
rule_for Rounds = filled rounds_rule

abbrev pub settle : Form → Held → List Row
settle form h = settled_rows (rules form) h.pending h.rows

-- between two items
abbrev pub stand : Held → ℕ → Walk
stand h position =
    record { held = h; waiting = idle; position = position; is_trailing = false; stopped = None }

-- between an option and its value
abbrev pub await : OptionName → Held → ℕ → Walk
await name h position = record {
  held = h;
  waiting = option (id_of name);
  position = position;
  is_trailing = false;
  stopped = None;
}

abbrev pub hold : List Row → Option (Text × List Text) → Held → Held
hold rows pending h = record { rows = rows; pending = pending; skip = h.skip }

-- ---- words that don't begin with `-`

and_false : (b : Bool) → (b && false) ≡ false
and_false true = refl
and_false false = refl

-- such a word is no flag
no_dashes : (x : ℕ) (xs : List ℕ) → (x == 45) ≡ false → bytes_eq (x ∷ xs) (45 ∷ 45 ∷ []) ≡ false
no_dashes x xs e = ap (λ (b : Bool). b && bytes_eq xs (45 ∷ [])) e

pub no_long : (x : ℕ) (xs : List ℕ) → (x == 45) ≡ false → long_of (x ∷ xs) ≡ None
no_long x xs e =
    ap (λ (b : Bool). option_and_then long_of_rest (option_and_then (strip_byte 45) (cond b (Some xs) None))) e

pub no_short : (x : ℕ) (xs : List ℕ) → (x == 45) ≡ false → short_of (x ∷ xs) ≡ None
no_short x xs e = ap (λ (b : Bool). option_and_then short_of_rest (cond b (Some xs) None)) e

abbrev met_by : List Rule → Waiting → ℕ → Text → Held → Held × Step
met_by c waiting position word h =
    cond (bytes_eq word (45 ∷ 45 ∷ [])) (h, trailing position) (long_or_other c waiting word (long_of word) h)

-- where nothing, or an option, waits for it
pub plain_met : (c : List Rule) (waiting : Waiting) (position x : ℕ) (xs : List ℕ) (h : Held) → (x == 45) ≡ false
    → met_by c waiting position (x ∷ xs) h ≡ plain_word c waiting (x ∷ xs) h
plain_met c waiting position x xs h e =
    ap (λ (b : Bool). cond b (h, trailing position) (long_or_other c waiting (x ∷ xs) (long_of (x ∷ xs)) h))
    (no_dashes x xs e)
    ∙ ap (λ (o : Option (Text × Option Text)). long_or_other c waiting (x ∷ xs) o h) (no_long x xs e)
    ∙ ap (λ (o : Option Text). short_or_plain c waiting (x ∷ xs) o h) (no_short x xs e)

-- ---- the steps

pub name_step : (form : Form) (name : OptionName) → has_options form ≡ true → (h : Held) (position : ℕ)
    → walked (rules form) [] (stand h position) (option_name name)
    ≡ await name (hold (settle form h) (Some (id_of name, [])) h) position
unfolding walked
name_step Folder name none h position = absurd cc
name_step FolderSearch Nodes has h position = refl
name_step FolderSearch Rounds has h position = refl
name_step DaySearch Nodes has h position = refl
name_step DaySearch Rounds has h position = refl

pub whole_step : (form : Form) (name : OptionName) → has_options form ≡ true
    → (h : Held) (position : ℕ) (value : List ℕ)
    → walked (rules form) [] (stand h position) (option_name name ++ (codes "=" ++ value))
    ≡ stand (hold (used (rule_for name) (value ∷ []) (settle form h)) None h) position
unfolding walked
whole_step Folder name none h position value = absurd cc
whole_step FolderSearch Nodes has h position value = refl
whole_step FolderSearch Rounds has h position value = refl
whole_step DaySearch Nodes has h position value = refl
whole_step DaySearch Rounds has h position value = refl

abbrev value_after : Form → OptionName → List Row → Held → ℕ → ℕ → List ℕ → Walk
value_after form name rows h position x xs =
    let held : Held = hold rows (Some (id_of name, [])) h in
    let met : Held × Step = plain_word (rules form) (option (id_of name)) (x ∷ xs) held in
    after_step (rules form) (x ∷ xs) (await name held position) met.0 met.1

value_there : (form : Form) (name : OptionName) → has_options form ≡ true
    → (rows : List Row) (h : Held) (position x : ℕ) (xs : List ℕ)
    → value_after form name rows h position x xs
    ≡ stand (hold rows (Some (id_of name, (x ∷ xs) ∷ [])) h) position
value_there Folder name none rows h position x xs = absurd cc
value_there FolderSearch Nodes has rows h position x xs = refl
value_there FolderSearch Rounds has rows h position x xs = refl
value_there DaySearch Nodes has rows h position x xs = refl
value_there DaySearch Rounds has rows h position x xs = refl

pub value_step : (form : Form) (name : OptionName) → has_options form ≡ true
    → (rows : List Row) (h : Held) (position x : ℕ) (xs : List ℕ) → (x == 45) ≡ false
    → walked (rules form) [] (await name (hold rows (Some (id_of name, [])) h) position) (x ∷ xs)
    ≡ stand (hold rows (Some (id_of name, (x ∷ xs) ∷ [])) h) position
unfolding walked
value_step form name has rows h position x xs e =
    let held : Held = hold rows (Some (id_of name, [])) h in
    ap (λ (met : Held × Step). after_step (rules form) (x ∷ xs) (await name held position) met.0 met.1)
    (plain_met (rules form) (option (id_of name)) position x xs held e)
    ∙ value_there form name has rows h position x xs

abbrev again : Text → Held → Bool
again id h = option_map_or (λ q. bytes_eq q.0 id) h.pending false

place_there : (form : Form) (place : Ordinal) → has_place form place ≡ true → (h : Held) (x : ℕ) (xs : List ℕ)
    → (let met : Held × Step = plain_word (rules form) idle (x ∷ xs) h in
    after_step (rules form) (x ∷ xs) (stand h (position place)) met.0 met.1)
    ≡ stand (pushed (place_id form place) (x ∷ xs)
    (cond (again (place_id form place) h && false) h (settled (rules form) h))) (position (next place))
place_there Folder First has h x xs = refl
place_there Folder Second none h x xs = absurd cc
place_there Folder Third none h x xs = absurd cc
place_there FolderSearch First has h x xs = refl
place_there FolderSearch Second none h x xs = absurd cc
place_there FolderSearch Third none h x xs = absurd cc
place_there DaySearch First has h x xs = refl
place_there DaySearch Second has h x xs = refl
place_there DaySearch Third none h x xs = absurd cc

pub positional_step : (form : Form) (place : Ordinal) → has_place form place ≡ true
    → (h : Held) (x : ℕ) (xs : List ℕ) → (x == 45) ≡ false
    → walked (rules form) [] (stand h (position place)) (x ∷ xs)
    ≡ stand (hold (settle form h) (Some (place_id form place, (x ∷ xs) ∷ [])) h) (position (next place))
unfolding walked
positional_step form place has h x xs e =
    ap (λ (met : Held × Step). after_step (rules form) (x ∷ xs) (stand h (position place)) met.0 met.1)
    (plain_met (rules form) idle (position place) x xs h e)
    ∙ place_there form place has h x xs
    ∙ ap (λ (b : Bool). stand (pushed (place_id form place) (x ∷ xs) (cond b h (settled (rules form) h)))
    (position (next place))) (and_false (again (place_id form place) h))
