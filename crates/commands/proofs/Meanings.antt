-- A command is understood exactly where the words are its plain form.
use Rattle.std.proofs.Common.{◌≡◌, ◌≤◌, ℕ, true, ◌&&◌, ◌==◌, ◌%◌, List, [], ◌∷◌, Option, Some, None}
use Rattle.std.proofs.Common.{length, refl, sym, ap, subst, ◌∙◌, inl, inr, codes, arith}
use Rattle.std.specs.Prelude.{nat_le, option_map, option_and_then, slice_get}
use Rattle.std.specs.Str.{bytes_eq}
use Rattle.std.proofs.lemmas.Bool.{and_parts}
use Rattle.std.proofs.lemmas.Bool.Decides.{nat_tests}
use Rattle.std.proofs.lemmas.Slice.Eq.{bytes_eq-Decides}
use Rattle.rail_base.specs.declared.limits.TheConstants.{MAX_BRANCHINGS, MAX_ROUNDS, MAX_TRIPS}
use Rattle.plain_words.specs.Numbers.{IsNumber, IsOption, number_up_to}
use Rattle.plain_words.proofs.Spelled.{if_some, le_of, le_true, number_back, number_forth, option_back, option_few}
use Rattle.plain_words.proofs.Spelled.{option_forth}
use Rattle.command_line.specs.declared.form.OptionName.TheVariants.{Nodes, Rounds}
use Rattle.command_line.specs.declared.form.Form.{Form}
use Rattle.command_line.specs.declared.form.Form.TheVariants.{Folder, FolderSearch, DaySearch}
use Rattle.plain_words.specs.Items as plain
use Rattle.plain_words.specs.Items.{IsPlain, WordList}
use Rattle.command_line.proofs.OptionItems.{Item, positional_in, values_in}
use Rattle.command_line.specs.Parts.{Parts, fits, parts_of}
use Rattle.command_line.specs.Texts.{said, texts_of}
use Rattle.command_line.specs.Forms as forms
use Rattle.command_line.proofs.PlainForms.{cases, clean}
use Rattle.command_line.proofs.AsItems.{IsSized, all_named, as_items, as_parts, fits_so, items_plain, own_items}
use Rattle.command_line.proofs.AsItems.{positional_same, values_same}
use Rattle.commands.specs.declared.command.Command.{Command}
use Rattle.commands.specs.declared.command.Command.TheVariants.{Plan, Simulate, Check, Duties, Yards, Costs, Trial}
use Rattle.commands.specs.declared.command.TheConstants.{MAX_SEED, USUAL_NODES, USUAL_ROUNDS}
use Rattle.commands.specs.Commands.{command_of, day_of, even_trips, form_of, in_folder, named, named_plain, nodes_of}
use Rattle.commands.specs.Commands.{numbers_of, plan_command, rounds_of, trial_command, trips_of}
use Rattle.commands.specs.PlainForm.{IsInFolder, IsPlainForm, IsTrial, Means, command_word, form_for}

-- ---- folders and days

one_word : (words : WordList) (dir : List ℕ) → length words ≡ 1 → slice_get words 0 ≡ Some dir → words ≡ dir ∷ []
one_word [] dir one e = absurd cc
one_word (word ∷ []) dir one e = cc
one_word (word ∷ again ∷ words) dir one e = absurd (omega (arith, one))

no_words : (words : WordList) → length words ≤ 0 → words ≡ []
no_words [] none = refl
no_words (word ∷ words) none = absurd (omega (arith, none))

folder_forth : (dir : List ℕ) (p n r : WordList) → IsInFolder dir p n r → slice_get p 0 ≡ Some dir
folder_forth dir p n r is = ap (λ (words : WordList). slice_get words 0) is.0

folder_back : (dir : List ℕ) (p n r : WordList) → IsSized Folder p n r → slice_get p 0 ≡ Some dir
    → IsInFolder dir p n r
folder_back dir p n r size e = (one_word p dir size.as_many e, no_words n size.few_nodes, no_words r size.few_rounds)

folder_sized : (dir : List ℕ) (p n r : WordList) → IsInFolder dir p n r → IsSized Folder p n r
folder_sized dir p n r is = record {
  as_many = ap length is.0 ∙ omega arith;
  few_nodes = omega (arith, ap length is.1);
  few_rounds = omega (arith, ap length is.2);
}

trips_forth : (text : List ℕ) (trips : ℕ) → IsNumber MAX_TRIPS text trips → 2 ≤ trips → trips % 2 ≡ 0
    → trips_of text ≡ Some trips
trips_forth text trips is some even =
    let number : number_up_to MAX_TRIPS text ≡ Some trips = number_forth MAX_TRIPS text trips is in
    let enough : nat_le 2 trips ≡ true = le_true 2 trips some in
    rw (number, enough, even) refl

even_back : (trips found : ℕ) → even_trips found ≡ Some trips → (found ≡ trips) × (2 ≤ trips) × (trips % 2 ≡ 0)
even_back trips found e =
    let is = if_some (nat_le 2 found && (found % 2 == 0)) found trips e in
    let tests = and_parts (nat_le 2 found) (found % 2 == 0) is.0 in
    let even : found % 2 ≡ 0 = grind (arith, nat_tests, tests.1) in
    (is.1, subst (λ (n : ℕ). 2 ≤ n) is.1 (le_of 2 found tests.0), subst (λ (n : ℕ). n % 2 ≡ 0) is.1 even)

trips_back : (text : List ℕ) (trips : ℕ) → trips_of text ≡ Some trips
    → IsNumber MAX_TRIPS text trips × (2 ≤ trips) × (trips % 2 ≡ 0)
trips_back text trips e = from (number_up_to MAX_TRIPS text) refl e
  where
    from : (o : Option ℕ) → number_up_to MAX_TRIPS text ≡ o → option_and_then even_trips o ≡ Some trips
        → IsNumber MAX_TRIPS text trips × (2 ≤ trips) × (trips % 2 ≡ 0)
    from None same e = absurd cc
    from (Some found) same e =
        let is = even_back trips found e in
        (number_back MAX_TRIPS text trips (same ∙ ap (λ (n : ℕ). Some n) is.0), is.1, is.2)

day_parts : (a b : Option ℕ) (seed trips : ℕ)
    → ◌≡◌ {A = Option (ℕ × ℕ)} (option_and_then (λ number. option_map (λ count. (number, count)) b) a)
    (Some (seed, trips)) → (a ≡ Some seed) × (b ≡ Some trips)
day_parts (Some number) (Some count) seed trips e =
    let same : ◌≡◌ {A = ℕ × ℕ} (number, count) (seed, trips) = cc in
    (ap (λ (day : ℕ × ℕ). Some day.0) same, ap (λ (day : ℕ × ℕ). Some day.1) same)
day_parts (Some number) None seed trips e = absurd cc
day_parts None b seed trips e = absurd cc

day_back : (p n r : WordList) (seed trips : ℕ) → length p ≡ 2 → day_of (said p n r) ≡ Some (seed, trips)
    → IsTrial p seed trips
day_back [] n r seed trips two e = absurd cc
day_back (first ∷ []) n r seed trips two e = absurd cc
day_back (first ∷ second ∷ third ∷ words) n r seed trips two e = absurd (omega (arith, two))
day_back (first ∷ second ∷ []) n r seed trips two e =
    let parts = day_parts (number_up_to MAX_SEED first) (trips_of second) seed trips e in
    let day = trips_back second trips parts.1 in
    record {
      seed_text = first;
      trips_text = second;
      both = refl;
      seed_number = number_back MAX_SEED first seed parts.0;
      trips_number = day.0;
      some = day.1;
      even = day.2;
    }

day_forth : (p n r : WordList) (seed trips : ℕ) → IsTrial p seed trips → day_of (said p n r) ≡ Some (seed, trips)
day_forth p n r seed trips is =
    let seed_is : number_up_to MAX_SEED is.seed_text ≡ Some seed =
    number_forth MAX_SEED is.seed_text seed is.seed_number in
    let trips_is : trips_of is.trips_text ≡ Some trips =
    trips_forth is.trips_text trips is.trips_number is.some is.even in
    let two : numbers_of is.seed_text is.trips_text ≡ Some (seed, trips) = rw (seed_is, trips_is) refl in
    ap (λ (words : WordList). day_of (said words n r)) is.both ∙ two

-- ---- commands

plan_parts : (a : Option (List ℕ)) (b c : Option ℕ) (command : Command)
    → ◌≡◌ {A = Option Command}
    (option_and_then (λ dir. option_and_then (λ nodes. option_map (λ rounds. Plan dir nodes rounds) c) b) a)
    (Some command)
    → (dir : List ℕ) × (nodes : ℕ) × (rounds : ℕ) × (a ≡ Some dir) × (b ≡ Some nodes) × (c ≡ Some rounds)
    × (◌≡◌ {A = Command} (Plan dir nodes rounds) command)
plan_parts (Some dir) (Some nodes) (Some rounds) command e = (dir, nodes, rounds, refl, refl, refl, cc)
plan_parts (Some dir) (Some nodes) None command e = absurd cc
plan_parts (Some dir) None c command e = absurd cc
plan_parts None b c command e = absurd cc

trial_parts : (a : Option (ℕ × ℕ)) (b c : Option ℕ) (command : Command)
    → ◌≡◌ {A = Option Command}
    (option_and_then
    (λ day. option_and_then (λ nodes. option_map (λ rounds. Trial day.0 day.1 nodes rounds) c) b) a)
    (Some command)
    → (seed : ℕ) × (trips : ℕ) × (nodes : ℕ) × (rounds : ℕ) × (a ≡ Some (seed, trips)) × (b ≡ Some nodes)
    × (c ≡ Some rounds) × (◌≡◌ {A = Command} (Trial seed trips nodes rounds) command)
trial_parts (Some day) (Some nodes) (Some rounds) command e = (day.0, day.1, nodes, rounds, refl, refl, refl, cc)
trial_parts (Some day) (Some nodes) None command e = absurd cc
trial_parts (Some day) None c command e = absurd cc
trial_parts None b c command e = absurd cc

-- the word and the parts are those of the command
abbrev Is : List ℕ → WordList → WordList → WordList → Command → Type 0
Is word p n r command = (word ≡ command_word command) × Means p n r command

plan_back : (word : List ℕ) (p n r : WordList) (command : Command) → word ≡ codes "plan" → IsSized FolderSearch p n r
    → plan_command (said p n r) ≡ Some command → Is word p n r command
plan_back word p n r command plan size e =
    let found = plan_parts (slice_get p 0) (nodes_of (said p n r)) (rounds_of (said p n r)) command e in
    let nodes_is : IsOption USUAL_NODES MAX_BRANCHINGS n found.1 =
    option_back USUAL_NODES MAX_BRANCHINGS n found.1 size.few_nodes found.4 in
    let rounds_is : IsOption USUAL_ROUNDS MAX_ROUNDS r found.2 =
    option_back USUAL_ROUNDS MAX_ROUNDS r found.2 size.few_rounds found.5 in
    let means : Is word p n r (Plan found.0 found.1 found.2) =
    (plan, (one_word p found.0 size.as_many found.3, (nodes_is, rounds_is))) in
    subst (λ (c : Command). Is word p n r c) found.6 means

trial_back : (word : List ℕ) (p n r : WordList) (command : Command) → word ≡ codes "trial" → IsSized DaySearch p n r
    → trial_command (said p n r) ≡ Some command → Is word p n r command
trial_back word p n r command trial size e =
    let found = trial_parts (day_of (said p n r)) (nodes_of (said p n r)) (rounds_of (said p n r)) command e in
    let nodes_is : IsOption USUAL_NODES MAX_BRANCHINGS n found.2 =
    option_back USUAL_NODES MAX_BRANCHINGS n found.2 size.few_nodes found.5 in
    let rounds_is : IsOption USUAL_ROUNDS MAX_ROUNDS r found.3 =
    option_back USUAL_ROUNDS MAX_ROUNDS r found.3 size.few_rounds found.6 in
    let means : Is word p n r (Trial found.0 found.1 found.2 found.3) =
    (trial, (day_back p n r found.0 found.1 size.as_many found.4, (nodes_is, rounds_is))) in
    subst (λ (c : Command). Is word p n r c) found.7 means

here : (word : List ℕ) (p n r : WordList) (made command : Command) → Is word p n r made
    → ◌≡◌ {A = Option Command} (Some made) (Some command) → Is word p n r command
here word p n r made command is same = let inner : made ≡ command = cc in
    subst (λ (c : Command). Is word p n r c) inner is

text_of : (word text : List ℕ) → bytes_eq word text ≡ true → word ≡ text
text_of word text same = (bytes_eq-Decides word text).0 same

in_folder_back : (word dir : List ℕ) (p n r : WordList) (command : Command) → IsInFolder dir p n r
    → in_folder word dir ≡ Some command → Is word p n r command
in_folder_back word dir p n r command is e = elim (cases (bytes_eq word (codes "simulate"))) [
  | inl same ↦ let at : in_folder word dir ≡ Some (Simulate dir) = rw same refl in
      here word p n r (Simulate dir) command (text_of word (codes "simulate") same, is) (sym at ∙ e)
  | inr not_simulate ↦ elim (cases (bytes_eq word (codes "check"))) [
    | inl same ↦ let at : in_folder word dir ≡ Some (Check dir) = rw (not_simulate, same) refl in
        here word p n r (Check dir) command (text_of word (codes "check") same, is) (sym at ∙ e)
    | inr not_check ↦ elim (cases (bytes_eq word (codes "duties"))) [
      | inl same ↦ let at : in_folder word dir ≡ Some (Duties dir) = rw (not_simulate, not_check, same) refl in
          here word p n r (Duties dir) command (text_of word (codes "duties") same, is) (sym at ∙ e)
      | inr not_duties ↦ elim (cases (bytes_eq word (codes "yards"))) [
        | inl same ↦ let at : in_folder word dir ≡ Some (Yards dir) =
            rw (not_simulate, not_check, not_duties, same) refl in
            here word p n r (Yards dir) command (text_of word (codes "yards") same, is) (sym at ∙ e)
        | inr not_yards ↦ elim (cases (bytes_eq word (codes "costs"))) [
          | inl same ↦ let at : in_folder word dir ≡ Some (Costs dir) =
              rw (not_simulate, not_check, not_duties, not_yards, same) refl in
              here word p n r (Costs dir) command (text_of word (codes "costs") same, is) (sym at ∙ e)
          | inr not_costs ↦ let at : in_folder word dir ≡ None =
              rw (not_simulate, not_check, not_duties, not_yards, not_costs) refl in
              let never : ◌≡◌ {A = Option Command} None (Some command) = sym at ∙ e in absurd cc
        ]
      ]
    ]
  ]
]

folder_command_back : (word : List ℕ) (p n r : WordList) (command : Command) → IsSized Folder p n r
    → option_and_then (in_folder word) (slice_get p 0) ≡ Some command → Is word p n r command
folder_command_back word p n r command size e = from (slice_get p 0) refl e
  where
    from : (o : Option (List ℕ)) → slice_get p 0 ≡ o → option_and_then (in_folder word) o ≡ Some command
        → Is word p n r command
    from None same e = absurd cc
    from (Some dir) same e = in_folder_back word dir p n r command (folder_back dir p n r size same) e

named_back : (word : List ℕ) (p n r : WordList) (command : Command) → IsSized (form_of word) p n r
    → named word (said p n r) ≡ Some command → Is word p n r command
named_back word p n r command size e = elim (cases (bytes_eq word (codes "plan"))) [
  | inl same ↦ let at : named word (said p n r) ≡ plan_command (said p n r) = rw same refl in
      let form : form_of word ≡ FolderSearch = rw same refl in
      plan_back word p n r command (text_of word (codes "plan") same)
      (subst (λ (f : Form). IsSized f p n r) form size) (sym at ∙ e)
  | inr not_plan ↦ elim (cases (bytes_eq word (codes "trial"))) [
    | inl same ↦ let at : named word (said p n r) ≡ trial_command (said p n r) = rw (not_plan, same) refl in
        let form : form_of word ≡ DaySearch = rw (not_plan, same) refl in
        trial_back word p n r command (text_of word (codes "trial") same)
        (subst (λ (f : Form). IsSized f p n r) form size) (sym at ∙ e)
    | inr not_trial ↦
        let at : named word (said p n r) ≡ option_and_then (in_folder word) (slice_get p 0) =
        rw (not_plan, not_trial) refl in
        let form : form_of word ≡ Folder = rw (not_plan, not_trial) refl in
        folder_command_back word p n r command (subst (λ (f : Form). IsSized f p n r) form size) (sym at ∙ e)
  ]
]

named_forth : (command : Command) (p n r : WordList) → Means p n r command
    → named (command_word command) (said p n r) ≡ Some command
named_forth (Plan dir nodes rounds) p n r is =
    let nodes_is : nodes_of (said p n r) ≡ Some nodes = option_forth USUAL_NODES MAX_BRANCHINGS n nodes is.1.0 in
    let rounds_is : rounds_of (said p n r) ≡ Some rounds = option_forth USUAL_ROUNDS MAX_ROUNDS r rounds is.1.1 in
    let dir_is : slice_get p 0 ≡ Some dir = ap (λ (words : WordList). slice_get words 0) is.0 in
    let at : plan_command (said p n r) ≡ Some (Plan dir nodes rounds) = rw (dir_is, nodes_is, rounds_is) refl in
    at
named_forth (Trial seed trips nodes rounds) p n r is =
    let nodes_is : nodes_of (said p n r) ≡ Some nodes = option_forth USUAL_NODES MAX_BRANCHINGS n nodes is.1.0 in
    let rounds_is : rounds_of (said p n r) ≡ Some rounds = option_forth USUAL_ROUNDS MAX_ROUNDS r rounds is.1.1 in
    let day_is : day_of (said p n r) ≡ Some (seed, trips) = day_forth p n r seed trips is.0 in
    let at : trial_command (said p n r) ≡ Some (Trial seed trips nodes rounds) = rw (day_is, nodes_is, rounds_is) refl in
    at
named_forth (Simulate dir) p n r is =
    ap (λ (o : Option (List ℕ)). option_and_then (in_folder (codes "simulate")) o) (folder_forth dir p n r is)
named_forth (Check dir) p n r is =
    ap (λ (o : Option (List ℕ)). option_and_then (in_folder (codes "check")) o) (folder_forth dir p n r is)
named_forth (Duties dir) p n r is =
    ap (λ (o : Option (List ℕ)). option_and_then (in_folder (codes "duties")) o) (folder_forth dir p n r is)
named_forth (Yards dir) p n r is =
    ap (λ (o : Option (List ℕ)). option_and_then (in_folder (codes "yards")) o) (folder_forth dir p n r is)
named_forth (Costs dir) p n r is =
    ap (λ (o : Option (List ℕ)). option_and_then (in_folder (codes "costs")) o) (folder_forth dir p n r is)

-- what makes a command is as many as its form wants
sized_forth : (command : Command) (p n r : WordList) → Means p n r command
    → IsSized (form_of (command_word command)) p n r
sized_forth (Plan dir nodes rounds) p n r is = record {
  as_many = omega (arith, ap length is.0);
  few_nodes = option_few USUAL_NODES MAX_BRANCHINGS n nodes is.1.0;
  few_rounds = option_few USUAL_ROUNDS MAX_ROUNDS r rounds is.1.1;
}
sized_forth (Trial seed trips nodes rounds) p n r is = record {
  as_many = omega (arith, ap length is.0.both);
  few_nodes = option_few USUAL_NODES MAX_BRANCHINGS n nodes is.1.0;
  few_rounds = option_few USUAL_ROUNDS MAX_ROUNDS r rounds is.1.1;
}
sized_forth (Simulate dir) p n r is = folder_sized dir p n r is
sized_forth (Check dir) p n r is = folder_sized dir p n r is
sized_forth (Duties dir) p n r is = folder_sized dir p n r is
sized_forth (Yards dir) p n r is = folder_sized dir p n r is
sized_forth (Costs dir) p n r is = folder_sized dir p n r is

-- ---- the words

-- the values of items by this crate's options, and by the names of options, are the same
meant_named : (command : Command) (items : List Item)
    → Means (positional_in items) (values_in Nodes items) (values_in Rounds items) command
    → Means (plain.positional_in (all_named items)) (plain.values_in (codes "--nodes") (all_named items))
    (plain.values_in (codes "--rounds") (all_named items)) command
meant_named command items is =
    rw (positional_same items, values_same Nodes items, values_same Rounds items) is

meant_own : (command : Command) (items : List Item)
    → Means (plain.positional_in (all_named items)) (plain.values_in (codes "--nodes") (all_named items))
    (plain.values_in (codes "--rounds") (all_named items)) command
    → Means (positional_in items) (values_in Nodes items) (values_in Rounds items) command
meant_own command items is =
    rw (sym (positional_same items), sym (values_same Nodes items), sym (values_same Rounds items)) is

form_is : (command : Command) → form_of (command_word command) ≡ form_for command
form_is (Plan dir nodes rounds) = refl
form_is (Simulate dir) = refl
form_is (Check dir) = refl
form_is (Duties dir) = refl
form_is (Yards dir) = refl
form_is (Costs dir) = refl
form_is (Trial seed trips nodes rounds) = refl

-- what is understood is the plain form of the command
pub understood : (words : WordList) (command : Command) → command_of words ≡ Some command → IsPlainForm words command
understood [] command e = absurd cc
understood (program ∷ []) command e = absurd cc
understood (program ∷ word ∷ rest) command e = elim (cases (fits (form_of word) (parts_of rest))) [
  | inr broken ↦ let at : named_plain word (parts_of rest) ≡ None = rw broken refl in
      let never : ◌≡◌ {A = Option Command} None (Some command) = sym at ∙ e in absurd cc
  | inl fit ↦ let found = as_items (form_of word) rest fit in
      let p : WordList = positional_in found.items in
      let n : WordList = values_in Nodes found.items in
      let r : WordList = values_in Rounds found.items in
      let at : named_plain word (parts_of rest) ≡ named word (texts_of (parts_of rest)) = rw fit refl in
      let is = named_back word p n r command found.size
      (ap (λ (q : Parts). named word (texts_of q)) (sym (as_parts (form_of word) rest found)) ∙ (sym at ∙ e)) in
      let form : form_of word ≡ form_for command = ap form_of is.0 ∙ form_is command in
      record {
        program = program;
        rest = rest;
        items = all_named found.items;
        written = ap (λ (w : List ℕ). program ∷ w ∷ rest) is.0;
        form = subst (λ (f : Form). IsPlain (forms.form_of f) rest (all_named found.items)) form
            (items_plain (form_of word) rest found);
        meant = meant_named command found.items is.1;
      }
]

-- the plain form of a command is understood
pub plain_form : (words : WordList) (command : Command) → IsPlainForm words command → command_of words ≡ Some command
plain_form words command is =
    let own = own_items (form_for command) is.rest is.items is.form in
    let p : WordList = positional_in own.found.items in
    let n : WordList = values_in Nodes own.found.items in
    let r : WordList = values_in Rounds own.found.items in
    let word : List ℕ = command_word command in
    let meant : Means p n r command =
    meant_own command own.found.items
    (subst (λ (items : List plain.Item). Means (plain.positional_in items) (plain.values_in (codes "--nodes") items)
    (plain.values_in (codes "--rounds") items) command) (sym own.same) is.meant) in
    let fit : fits (form_of word) (clean p n r) ≡ true =
    fits_so (form_of word) p n r (sized_forth command p n r meant) in
    let at : named_plain word (clean p n r) ≡ named word (said p n r) = rw fit refl in
    ap command_of is.written
    ∙ (ap (named_plain word) (as_parts (form_for command) is.rest own.found) ∙ (at ∙ named_forth command p n r meant))
