-- Entries that are put by rising index: which of them stand in the proposal in the end.
use Rattle.std.proofs.Common.{◌≡◌, ◌≢◌, ℕ, ◌<◌, ◌≤◌, List, [], ◌∷◌, ◌++◌, Bool, true, false, ◌&&◌, ◌||◌}
use Rattle.std.proofs.Common.{if◌then◌else◌, eqb, All, ◌⊎◌, inl, inr, refl, sym, ◌∙◌, ap, arith}
use Rattle.std.specs.Option.{is_none}
use Rattle.std.proofs.lemmas.Bool.{cases_lt, eq-eqb}
use Rattle.std.proofs.lemmas.Bool.Decides.{eqb_tells}
use Rattle.std.proofs.lemmas.List.Elements.{All-head, All-tail}
use Rattle.branch_tree.specs.declared.multipliers.Entry.{Entry}
use Rattle.branch_tree.specs.Entries.{AreRising, is_entered, put_in, value_at}
use Rattle.branch_tree.proofs.Puts.{is_entered-absent}
use Rattle.branch_tree.proofs.Rising.{rising-tail, rising-head}
use Rattle.advisors.specs.EntriesByIndex.{below, from_on}
use Rattle.advisors.specs.Proposed.{Proposed}
use Rattle.advisors.specs.Proposals.{IsOverSame, refusal_of}
use Rattle.advisors.specs.Puts.{with_entries, with_entry}
use Rattle.advisors.specs.SteppedProposals.{at_turn}
use Rattle.advisors.proofs.EntryLists.{below-put, from_on-put, value_at-put, divided, rising-put}

-- a proposal with other multipliers
abbrev with_multipliers : Proposed → List Entry → Proposed
with_multipliers proposal entries = record proposal { multipliers = entries }

-- a proposal after a put that was taken or not
abbrev after_put : Bool → Proposed → Entry → Proposed
after_put taken before entry = if taken then with_multipliers before (put_in before.multipliers entry.index entry.value) else before

-- whether a proposal takes an entry
abbrev takes : Proposed → Entry → Bool
takes proposal entry = is_none (refusal_of proposal entry.index entry.value)

put-keeps : (before : Proposed) (entry : Entry) → with_entry before entry ≡ with_multipliers before (with_entry before entry).multipliers
put-keeps before entry = of (takes before entry)
  where
    of : (b : Bool) → after_put b before entry ≡ with_multipliers before (after_put b before entry).multipliers
    of true = refl
    of false = refl

below-with : (before : Proposed) (entry : Entry) (i : ℕ) → i ≤ entry.index → below i (with_entry before entry).multipliers ≡ below i before.multipliers
below-with before entry i low = of (takes before entry)
  where
    of : (b : Bool) → below i (after_put b before entry).multipliers ≡ below i before.multipliers
    of true = below-put before.multipliers i entry.index entry.value low
    of false = refl

from_on-with : (before : Proposed) (entry : Entry) (i : ℕ) → entry.index < i → from_on i (with_entry before entry).multipliers ≡ from_on i before.multipliers
from_on-with before entry i over = of (takes before entry)
  where
    of : (b : Bool) → from_on i (after_put b before entry).multipliers ≡ from_on i before.multipliers
    of true = from_on-put before.multipliers i entry.index entry.value over
    of false = refl

rising-with : (before : Proposed) (entry : Entry) → AreRising before.multipliers → AreRising (with_entry before entry).multipliers
rising-with before entry rising = of (takes before entry)
  where
    of : (b : Bool) → AreRising (after_put b before entry).multipliers
    of true = rising-put before.multipliers entry.index entry.value rising
    of false = rising

-- at the index of the entry stands its value, where it was taken
value_at-with : (before : Proposed) (entry : Entry) → value_at (with_entry before entry).multipliers entry.index ≡ (if takes before entry then entry.value else value_at before.multipliers entry.index)
value_at-with before entry = of (takes before entry)
  where
    of : (b : Bool) → value_at (after_put b before entry).multipliers entry.index ≡ (if b then entry.value else value_at before.multipliers entry.index)
    of true = value_at-put before.multipliers entry.index entry.value entry.index ∙ ap (λ b. if b then entry.value else value_at before.multipliers entry.index) (eq-eqb entry.index entry.index refl)
    of false = refl

-- at another index stands what stood there before
value_at-other : (before : Proposed) (entry : Entry) (i : ℕ) → eqb i entry.index ≡ false → value_at (with_entry before entry).multipliers i ≡ value_at before.multipliers i
value_at-other before entry i other = of (takes before entry)
  where
    of : (b : Bool) → value_at (after_put b before entry).multipliers i ≡ value_at before.multipliers i
    of true = value_at-put before.multipliers entry.index entry.value i ∙ ap (λ b. if b then entry.value else value_at before.multipliers i) other
    of false = refl

below-entries : (before : Proposed) (entries : List Entry) (i : ℕ) → All (λ e. i ≤ e.index) entries → below i (with_entries before entries).multipliers ≡ below i before.multipliers
below-entries before [] i high = refl
below-entries before (entry ∷ entries) i high =
    below-entries (with_entry before entry) entries i (All-tail (λ e. i ≤ e.index) entry entries high)
    ∙ below-with before entry i (All-head (λ e. i ≤ e.index) entry entries high)

pub with_entries-append : (before : Proposed) (first second : List Entry) → with_entries before (first ++ second) ≡ with_entries (with_entries before first) second
with_entries-append before [] second = refl
with_entries-append before (entry ∷ first) second = with_entries-append (with_entry before entry) first second

pub entries-keep : (before : Proposed) (entries : List Entry) → with_entries before entries ≡ with_multipliers before (with_entries before entries).multipliers
entries-keep before [] = refl
entries-keep before (entry ∷ entries) =
    entries-keep (with_entry before entry) entries
    ∙ ap (λ p. with_multipliers p (with_entries (with_entry before entry) entries).multipliers) (put-keeps before entry)

pub entries-over : (before after : Proposed) (entries : List Entry) → after ≡ with_entries before entries → IsOverSame before after
entries-over before after entries is =
    let kept : after ≡ with_multipliers before (with_entries before entries).multipliers = is ∙ entries-keep before entries in
    record { indices = ap (λ p. p.indices) kept; free_from = ap (λ p. p.free_from) kept }

-- whether an entry of an index is taken at its turn
abbrev is_taken : List Entry → Proposed → Proposed → ℕ → Bool
is_taken entries before after i = is_entered entries i && is_none (refusal_of (at_turn before after i) i (value_at entries i))

-- what stands at an index in the end
abbrev Stands : List Entry → Proposed → Proposed → ℕ → Type 0
Stands entries before after i = value_at after.multipliers i ≡ (if is_taken entries before after i then value_at entries i else value_at before.multipliers i)

-- an index that no entry has
unput : (entries : List Entry) (before after : Proposed) (i : ℕ) → is_entered entries i ≡ false → Stands entries before after i → value_at after.multipliers i ≡ value_at before.multipliers i
unput entries before after i none stands =
    stands ∙ ap (λ b. if b && is_none (refusal_of (at_turn before after i) i (value_at entries i)) then value_at entries i else value_at before.multipliers i) none

-- the turn of the first entry comes at once
first_turn : (before after : Proposed) (i : ℕ) → AreRising before.multipliers → below i after.multipliers ≡ below i before.multipliers → at_turn before after i ≡ before
first_turn before after i rising low =
    ap (λ r. with_multipliers before (r ++ from_on i before.multipliers)) low
    ∙ ap (λ r. with_multipliers before r) (divided before.multipliers i rising)

-- a later turn is as if the first entry had been there before
later_turn : (before after : Proposed) (entry : Entry) (i : ℕ) → entry.index < i → at_turn (with_entry before entry) after i ≡ at_turn before after i
later_turn before after entry i over =
    ap (λ r. with_multipliers (with_entry before entry) (below i after.multipliers ++ r)) (from_on-with before entry i over)
    ∙ ap (λ p. with_multipliers p (below i after.multipliers ++ from_on i before.multipliers)) (put-keeps before entry)

pub stands_at_each : (before : Proposed) (entries : List Entry) → AreRising before.multipliers → AreRising entries → (i : ℕ) → Stands entries before (with_entries before entries) i
stands_at_each before [] held rising i = refl
stands_at_each before (entry ∷ entries) held rising i =
    of (eqb_tells i entry.index) (cases_lt i entry.index) (stands_at_each (with_entry before entry) entries (rising-with before entry held) (rising-tail entry entries rising) i)
  where
    middle : Proposed
    middle = with_entry before entry

    after : Proposed
    after = with_entries middle entries

    absent : i ≤ entry.index → is_entered entries i ≡ false
    absent low = is_entered-absent entries i (λ k d inside same. omega (arith, low, same, rising-head entry entries rising k d inside))

    of : ((eqb i entry.index ≡ true) × (i ≡ entry.index)) ⊎ ((eqb i entry.index ≡ false) × (i ≢ entry.index)) → (i < entry.index) ⊎ (entry.index ≤ i) →
        Stands entries middle after i → Stands (entry ∷ entries) before after i
    of (inl (told, same)) order rest =
        let turn : at_turn before after i ≡ before =
        first_turn before after i held
        (below-entries middle entries i (λ k d inside. omega (arith, same, rising-head entry entries rising k d inside)) ∙ below-with before entry i (omega (arith, same))) in
        unput entries middle after i (absent (omega (arith, same))) rest
        ∙ ap (λ n. value_at middle.multipliers n) same ∙ value_at-with before entry
        ∙ ap (λ n. if is_none (refusal_of before n entry.value) then entry.value else value_at before.multipliers n) (sym same)
        ∙ ap (λ p. if is_none (refusal_of p i entry.value) then entry.value else value_at before.multipliers i) (sym turn)
        ∙ ap (λ b. if (b || is_entered entries i) && is_none (refusal_of (at_turn before after i) i (if b then entry.value else value_at entries i)) then (if b then entry.value else value_at entries i) else value_at before.multipliers i) (sym told)
    of (inr (denied, other)) (inl less) rest =
        unput entries middle after i (absent (omega (arith, less))) rest
        ∙ value_at-other before entry i denied
        ∙ ap (λ b. if b && is_none (refusal_of (at_turn before after i) i (value_at entries i)) then value_at entries i else value_at before.multipliers i) (sym (absent (omega (arith, less))))
        ∙ ap (λ b. if (b || is_entered entries i) && is_none (refusal_of (at_turn before after i) i (if b then entry.value else value_at entries i)) then (if b then entry.value else value_at entries i) else value_at before.multipliers i) (sym denied)
    of (inr (denied, other)) (inr high) rest =
        rest
        ∙ ap (λ v. if is_taken entries middle after i then value_at entries i else v) (value_at-other before entry i denied)
        ∙ ap (λ p. if is_entered entries i && is_none (refusal_of p i (value_at entries i)) then value_at entries i else value_at before.multipliers i) (later_turn before after entry i (omega (arith, high, other)))
        ∙ ap (λ b. if (b || is_entered entries i) && is_none (refusal_of (at_turn before after i) i (if b then entry.value else value_at entries i)) then (if b then entry.value else value_at entries i) else value_at before.multipliers i) (sym denied)
