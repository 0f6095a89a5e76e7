-- Each step passes, what it leaves waiting passes too, and what is settled then has one more row.
use Rattle.std.proofs.Common.{ℕ, ◌≡◌, ◌∙◌, refl, ap, List, [], ◌∷◌, ◌++◌, Bool, true, false, codes, Some, Option}
use Rattle.std.specs.Prelude.{◌&&◌, ◌||◌, ◌==◌, not}
use Rattle.std.specs.Option.{option_map_or}
use Rattle.std.specs.Str.{bytes_eq}
use Rattle.std.proofs.lemmas.Bool.{and_from, or_right}
use Rattle.clap.specs.declared.builder.value_parser.Reading.{Reading}
use Rattle.clap.specs.Lexer.{long_of}
use Rattle.clap.specs.Walk.{Rule, Row, Text, Held, Step, Waiting, has_row, idle, option, plain_word, reading_by, used}
use Rattle.clap.specs.Takes.{bundle_passes, flag_word_passes, settle_passes, step_passes, turn_passes}
use Rattle.clap.specs.Simple.{Shape, built, filled}
use Rattle.command_line.specs.declared.form.OptionName.{OptionName}
use Rattle.command_line.specs.declared.form.OptionName.TheVariants.{Nodes, Rounds}
use Rattle.command_line.specs.declared.form.Form.{Form}
use Rattle.command_line.specs.declared.form.Form.TheVariants.{Folder, FolderSearch, DaySearch}
use Rattle.command_line.specs.Apps.{app, nodes_rule}
use Rattle.command_line.proofs.OptionItems.{option_name}
use Rattle.command_line.proofs.Rows.{put}
use Rattle.command_line.proofs.Stepping.{Ordinal, First, Second, Third, position, has_place, place_id, has_options}
use Rattle.command_line.proofs.Stepping.{id_of, rule_for, settle, stand, await, hold, no_long, no_short, plain_met}
use Rattle.command_line.proofs.Stepping.{rules}

abbrev pub shape : Form → Shape
shape form = (built (app form)).top

abbrev pub how : Reading
how = reading_by (filled nodes_rule)

-- ---- words that don't begin with `-`

-- such a word asks for nothing
no_flag_passes : (c : List Rule) (again : Bool) (x : ℕ) (xs : List ℕ) (h : Held) → (x == 45) ≡ false
    → flag_word_passes c again (long_of (x ∷ xs)) (x ∷ xs) h ≡ true
no_flag_passes c again x xs h e =
    ap (λ (o : Option (Text × Option Text)). flag_word_passes c again o (x ∷ xs) h) (no_long x xs e)
    ∙ ap (λ (o : Option Text). option_map_or (λ flags. bundle_passes c again flags h) o true) (no_short x xs e)

abbrev plain_passes : Form → Waiting → ℕ → Text → Held → Bool
plain_passes form waiting position word h =
    let met : Held × Step = plain_word (rules form) waiting word h in
    step_passes (shape form) position met.0 met.1

place_passes : (form : Form) (place : Ordinal) → has_place form place ≡ true → (h : Held) (x : ℕ) (xs : List ℕ)
    → settle_passes (rules form) false h ≡ true → plain_passes form idle (position place) (x ∷ xs) h ≡ true
place_passes Folder First has h x xs settles = or_right _ _ settles
place_passes Folder Second none h x xs settles = absurd cc
place_passes Folder Third none h x xs settles = absurd cc
place_passes FolderSearch First has h x xs settles = or_right _ _ settles
place_passes FolderSearch Second none h x xs settles = absurd cc
place_passes FolderSearch Third none h x xs settles = absurd cc
place_passes DaySearch First has h x xs settles = or_right _ _ settles
place_passes DaySearch Second has h x xs settles = or_right _ _ settles
place_passes DaySearch Third none h x xs settles = absurd cc

pub positional_passes_here : (form : Form) (place : Ordinal) → has_place form place ≡ true
    → (h : Held) (x : ℕ) (xs : List ℕ) → (x == 45) ≡ false → settle_passes (rules form) false h ≡ true
    → turn_passes (shape form) [] (stand h (position place)) (x ∷ xs) ≡ true
positional_passes_here form place has h x xs e settles =
    and_from _ _ (or_right (bytes_eq (x ∷ xs) (45 ∷ 45 ∷ [])) _
    (no_flag_passes (shape form).rules (shape form).args_override_self x xs h e))
    (ap (λ (met : Held × Step). step_passes (shape form) (position place) met.0 met.1)
    (plain_met (rules form) idle (position place) x xs h e) ∙ place_passes form place has h x xs settles)

value_passes : (form : Form) (name : OptionName) → has_options form ≡ true → (rows : List Row) (h : Held)
    → (position x : ℕ) (xs : List ℕ)
    → plain_passes form (option (id_of name)) position (x ∷ xs) (hold rows (Some (id_of name, [])) h) ≡ true
value_passes Folder name none rows h position x xs = absurd cc
value_passes FolderSearch Nodes has rows h position x xs = refl
value_passes FolderSearch Rounds has rows h position x xs = refl
value_passes DaySearch Nodes has rows h position x xs = refl
value_passes DaySearch Rounds has rows h position x xs = refl

pub value_passes_here : (form : Form) (name : OptionName) → has_options form ≡ true → (rows : List Row) (h : Held)
    → (position x : ℕ) (xs : List ℕ) → (x == 45) ≡ false
    → turn_passes (shape form) [] (await name (hold rows (Some (id_of name, [])) h) position) (x ∷ xs) ≡ true
value_passes_here form name has rows h position x xs e =
    let held : Held = hold rows (Some (id_of name, [])) h in
    and_from _ _ (or_right (bytes_eq (x ∷ xs) (45 ∷ 45 ∷ [])) _
    (no_flag_passes (shape form).rules (shape form).args_override_self x xs held e))
    (ap (λ (met : Held × Step). step_passes (shape form) position met.0 met.1)
    (plain_met (rules form) (option (id_of name)) position x xs held e)
    ∙ value_passes form name has rows h position x xs)

-- ---- options

pub name_passes_here : (form : Form) (name : OptionName) → has_options form ≡ true → (h : Held) (position : ℕ)
    → settle_passes (rules form) false h ≡ true
    → turn_passes (shape form) [] (stand h position) (option_name name) ≡ true
name_passes_here Folder name none h position settles = absurd cc
name_passes_here FolderSearch Nodes has h position settles = and_from _ _ settles refl
name_passes_here FolderSearch Rounds has h position settles = and_from _ _ settles refl
name_passes_here DaySearch Nodes has h position settles = and_from _ _ settles refl
name_passes_here DaySearch Rounds has h position settles = and_from _ _ settles refl

once : (b : Bool) → b ≡ false → ((not b || false) && true) ≡ true
once b new = ap (λ (b : Bool). (not b || false) && true) new

pub whole_passes_here : (form : Form) (name : OptionName) → has_options form ≡ true
    → (h : Held) (position : ℕ) (v : List ℕ) → settle_passes (rules form) false h ≡ true
    → has_row (id_of name) (settle form h) ≡ false
    → turn_passes (shape form) [] (stand h position) (option_name name ++ (codes "=" ++ v)) ≡ true
whole_passes_here Folder name none h position v settles new = absurd cc
whole_passes_here FolderSearch Nodes has h position v settles new =
    and_from _ _ (and_from _ _ settles (once _ new)) refl
whole_passes_here FolderSearch Rounds has h position v settles new =
    and_from _ _ (and_from _ _ settles (once _ new)) refl
whole_passes_here DaySearch Nodes has h position v settles new =
    and_from _ _ (and_from _ _ settles (once _ new)) refl
whole_passes_here DaySearch Rounds has h position v settles new =
    and_from _ _ (and_from _ _ settles (once _ new)) refl

-- ---- what waits passes, where the argument was not used before

pub value_settles : (form : Form) (name : OptionName) → has_options form ≡ true → (rows : List Row) (h : Held) (v : Text)
    → has_row (id_of name) rows ≡ false
    → settle_passes (rules form) false (hold rows (Some (id_of name, v ∷ [])) h) ≡ true
value_settles Folder name none rows h v new = absurd cc
value_settles FolderSearch Nodes has rows h v new = once _ new
value_settles FolderSearch Rounds has rows h v new = once _ new
value_settles DaySearch Nodes has rows h v new = once _ new
value_settles DaySearch Rounds has rows h v new = once _ new

pub place_settles : (form : Form) (place : Ordinal) → has_place form place ≡ true
    → (rows : List Row) (h : Held) (v : Text) → has_row (place_id form place) rows ≡ false
    → settle_passes (rules form) false (hold rows (Some (place_id form place, v ∷ [])) h) ≡ true
place_settles Folder First has rows h v new = once _ new
place_settles Folder Second none rows h v new = absurd cc
place_settles Folder Third none rows h v new = absurd cc
place_settles FolderSearch First has rows h v new = once _ new
place_settles FolderSearch Second none rows h v new = absurd cc
place_settles FolderSearch Third none rows h v new = absurd cc
place_settles DaySearch First has rows h v new = once _ new
place_settles DaySearch Second has rows h v new = once _ new
place_settles DaySearch Third none rows h v new = absurd cc

-- ---- what is settled

pub settled_value : (form : Form) (name : OptionName) → has_options form ≡ true → (rows : List Row) (h : Held) (v : Text)
    → settle form (hold rows (Some (id_of name, v ∷ [])) h) ≡ put (id_of name) how v rows
settled_value Folder name none rows h v = absurd cc
settled_value FolderSearch Nodes has rows h v = refl
settled_value FolderSearch Rounds has rows h v = refl
settled_value DaySearch Nodes has rows h v = refl
settled_value DaySearch Rounds has rows h v = refl

pub settled_whole : (name : OptionName) (rows : List Row) (v : Text)
    → used (rule_for name) (v ∷ []) rows ≡ put (id_of name) how v rows
settled_whole Nodes rows v = refl
settled_whole Rounds rows v = refl

pub settled_place : (form : Form) (place : Ordinal) → has_place form place ≡ true
    → (rows : List Row) (h : Held) (v : Text)
    → settle form (hold rows (Some (place_id form place, v ∷ [])) h) ≡ put (place_id form place) how v rows
settled_place Folder First has rows h v = refl
settled_place Folder Second none rows h v = absurd cc
settled_place Folder Third none rows h v = absurd cc
settled_place FolderSearch First has rows h v = refl
settled_place FolderSearch Second none rows h v = absurd cc
settled_place FolderSearch Third none rows h v = absurd cc
settled_place DaySearch First has rows h v = refl
settled_place DaySearch Second has rows h v = refl
settled_place DaySearch Third none rows h v = absurd cc
