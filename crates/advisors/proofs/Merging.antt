-- Multipliers merged with moved ones: their indices rise, and each index has the multiplier after the step.
use Rattle.std.proofs.Common.{◌≡◌, ◌≢◌, ℕ, ◌+◌, ◌<◌, ◌≤◌, List, [], ◌∷◌, ◌++◌, Bool, true, false, ◌==◌, ◌&&◌, ◌||◌, nat_lt, nat_le}
use Rattle.std.proofs.Common.{if◌then◌else◌, eqb, All, ℤ, ◌⊎◌, inl, inr, refl, sym, ◌∙◌, ap, subst, arith, drop, slice_get, Some, zero, suc, length, append_assoc}
use Rattle.std.specs.Option.{is_none}
use Rattle.std.proofs.lemmas.Bool.{cases_lt}
use Rattle.std.proofs.lemmas.Bool.Decides.{eqb_tells}
use Rattle.std.proofs.lemmas.List.Elements.{All-append, All-cons, All-filter, All-head, All-tail}
use Rattle.branch_tree.specs.declared.multipliers.Entry.{Entry}
use Rattle.branch_tree.specs.Entries.{AreRising, is_entered, value_at}
use Rattle.branch_tree.proofs.Puts.{is_entered-absent}
use Rattle.branch_tree.proofs.Rising.{rising-tail, rising-head, rising-cons}
use Rattle.advisors.specs.declared.advisor.Look.{Look}
use Rattle.advisors.specs.EntriesByIndex.{below, from_on}
use Rattle.advisors.specs.Proposed.{Proposed}
use Rattle.advisors.specs.Proposals.{refusal_of}
use Rattle.advisors.specs.Puts.{moved_entry, with_entries}
use Rattle.advisors.specs.SteppedProposals.{IsStepped, at_turn, moved_at, stepped}
use Rattle.advisors.proofs.EntryLists.{all_below, all_from_on, is_entered-append, is_entered-filtered, not_entered-filtered, lt-is, lt-is-not, le-is, le-is-not}
use Rattle.advisors.proofs.EntryLists.{rising-join, rising-filtered, value_at-filtered, value_at-skip, value_at-stop}
use Rattle.advisors.proofs.Turns.{entries-keep, stands_at_each, with_entries-append}

-- multipliers and moved ones by rising index; of an index that has both, the moved one
abbrev pub merged : Look → List Entry → List Entry → List Entry
merged look multipliers [] = multipliers
merged look multipliers (slack ∷ slacks) = below slack.index multipliers ++
    moved_entry look slack ∷ merged look (from_on (slack.index + 1) multipliers) slacks

merged-from : (look : Look) (k : ℕ) (entries slacks : List Entry) → All (λ e. k ≤ e.index) entries → All (λ e. k ≤ e.index) slacks → All (λ e. k ≤ e.index) (merged look entries slacks)
merged-from look k entries [] high slack_high = high
merged-from look k entries (slack ∷ slacks) high slack_high =
    let From : Entry → Type 0 = λ e. k ≤ e.index in
    All-append From (below slack.index entries) (moved_entry look slack ∷ merged look (from_on (slack.index + 1) entries) slacks)
    (All-filter (λ e. nat_lt e.index slack.index) From entries high)
    (All-cons From (moved_entry look slack) (merged look (from_on (slack.index + 1) entries) slacks) (All-head From slack slacks slack_high)
    (merged-from look k (from_on (slack.index + 1) entries) slacks (All-filter (λ e. nat_le (slack.index + 1) e.index) From entries high) (All-tail From slack slacks slack_high)))

pub merged-rising : (look : Look) (entries slacks : List Entry) → AreRising entries → AreRising slacks → AreRising (merged look entries slacks)
merged-rising look entries [] rising slack_rising = rising
merged-rising look entries (slack ∷ slacks) rising slack_rising =
    let rest : List Entry = merged look (from_on (slack.index + 1) entries) slacks in
    let past : All (λ e. slack.index + 1 ≤ e.index) rest =
    merged-from look (slack.index + 1) (from_on (slack.index + 1) entries) slacks (all_from_on entries (slack.index + 1))
    (λ k d inside. omega (arith, rising-head slack slacks slack_rising k d inside)) in
    rising-join (below slack.index entries) (moved_entry look slack ∷ rest) slack.index (rising-filtered (λ n. nat_lt n slack.index) entries rising)
    (rising-cons (moved_entry look slack) rest (λ k d inside. omega (arith, past k d inside))
    (merged-rising look (from_on (slack.index + 1) entries) slacks (rising-filtered (λ n. nat_le (slack.index + 1) n) entries rising) (rising-tail slack slacks slack_rising)))
    (all_below entries slack.index)
    (All-cons (λ e. slack.index ≤ e.index) (moved_entry look slack) rest (omega arith) (λ k d inside. omega (arith, past k d inside)))

pub merged-entered : (look : Look) (entries slacks : List Entry) (i : ℕ) → is_entered (merged look entries slacks) i ≡ (is_entered slacks i || is_entered entries i)
merged-entered look entries [] i = refl
merged-entered look entries (slack ∷ slacks) i =
    is_entered-append (below slack.index entries) (moved_entry look slack ∷ rest) i
    ∙ ap (λ b. b || ((i == slack.index) || is_entered rest i)) (is_entered-filtered (λ n. nat_lt n slack.index) entries i)
    ∙ of (eqb_tells i slack.index) (cases_lt i slack.index)
    (merged-entered look (from_on (slack.index + 1) entries) slacks i ∙ ap (λ b. is_entered slacks i || b) (is_entered-filtered (λ n. nat_le (slack.index + 1) n) entries i))
  where
    rest : List Entry
    rest = merged look (from_on (slack.index + 1) entries) slacks

    swap : (e s : Bool) → (e || (s || false)) ≡ (s || e)
    swap true true = refl
    swap true false = refl
    swap false true = refl
    swap false false = refl

    of : ((eqb i slack.index ≡ true) × (i ≡ slack.index)) ⊎ ((eqb i slack.index ≡ false) × (i ≢ slack.index)) → (i < slack.index) ⊎ (slack.index ≤ i) →
        is_entered rest i ≡ (is_entered slacks i || (nat_le (slack.index + 1) i && is_entered entries i)) →
        ((nat_lt i slack.index && is_entered entries i) || ((i == slack.index) || is_entered rest i)) ≡ (((i == slack.index) || is_entered slacks i) || is_entered entries i)
    of (inl (told, same)) order there = rw (told, lt-is-not i slack.index (omega (arith, same))) refl
    of (inr (denied, other)) (inl less) there = rw (denied, there, lt-is i slack.index less, le-is-not (slack.index + 1) i (omega (arith, less))) (swap (is_entered entries i) (is_entered slacks i))
    of (inr (denied, other)) (inr high) there = rw (denied, there, lt-is-not i slack.index high, le-is (slack.index + 1) i (omega (arith, high, other))) refl

pub merged-value : (look : Look) (entries slacks : List Entry) (i : ℕ) → AreRising slacks →
    value_at (merged look entries slacks) i ≡ (if is_entered slacks i then moved_at look i (value_at slacks i) else value_at entries i)
merged-value look entries [] i rising = refl
merged-value look entries (slack ∷ slacks) i rising =
    of (eqb_tells i slack.index) (cases_lt i slack.index) (merged-value look (from_on (slack.index + 1) entries) slacks i (rising-tail slack slacks rising))
  where
    rest : List Entry
    rest = merged look (from_on (slack.index + 1) entries) slacks

    tail : List Entry
    tail = moved_entry look slack ∷ rest

    Is : ℤ → Type 0
    Is v = v ≡ (if (i == slack.index) || is_entered slacks i then moved_at look i (if i == slack.index then slack.value else value_at slacks i) else value_at entries i)

    absent : i < slack.index → is_entered slacks i ≡ false
    absent less = is_entered-absent slacks i (λ k d inside same. omega (arith, less, same, rising-head slack slacks rising k d inside))

    of : ((eqb i slack.index ≡ true) × (i ≡ slack.index)) ⊎ ((eqb i slack.index ≡ false) × (i ≢ slack.index)) → (i < slack.index) ⊎ (slack.index ≤ i) →
        value_at rest i ≡ (if is_entered slacks i then moved_at look i (value_at slacks i) else value_at (from_on (slack.index + 1) entries) i) →
        value_at (below slack.index entries ++ tail) i ≡ (if (i == slack.index) || is_entered slacks i then moved_at look i (if i == slack.index then slack.value else value_at slacks i) else value_at entries i)
    of (inl (told, same)) order there =
        value_at-skip (below slack.index entries) tail i (not_entered-filtered (λ n. nat_lt n slack.index) entries i (lt-is-not i slack.index (omega (arith, same))))
        ∙ rw told (ap (λ n. moved_at look n slack.value) (sym same))
    of (inr (denied, other)) (inl less) there =
        value_at-stop (below slack.index entries) tail i
        (ap (λ b. b || is_entered rest i) denied ∙ merged-entered look (from_on (slack.index + 1) entries) slacks i
        ∙ ap (λ b. b || is_entered (from_on (slack.index + 1) entries) i) (absent less)
        ∙ not_entered-filtered (λ n. nat_le (slack.index + 1) n) entries i (le-is-not (slack.index + 1) i (omega (arith, less))))
        ∙ value_at-filtered (λ n. nat_lt n slack.index) entries i (lt-is i slack.index less)
        ∙ rw (denied, absent less) refl
    of (inr (denied, other)) (inr high) there =
        value_at-skip (below slack.index entries) tail i (not_entered-filtered (λ n. nat_lt n slack.index) entries i (lt-is-not i slack.index high))
        ∙ ap (λ b. if b then moved_at look slack.index slack.value else value_at rest i) denied
        ∙ there
        ∙ ap (λ v. if is_entered slacks i then moved_at look i (value_at slacks i) else v) (value_at-filtered (λ n. nat_le (slack.index + 1) n) entries i (le-is (slack.index + 1) i (omega (arith, high, other))))
        ∙ rw denied refl

-- a proposal into which the merged multipliers are put is the one after the step
pub merged-is_stepped : (look : Look) (before after : Proposed) → AreRising before.multipliers → AreRising look.multipliers.now → AreRising look.slacks.now →
    after ≡ with_entries before (merged look look.multipliers.now look.slacks.now) → IsStepped look before after
merged-is_stepped look before after held rising slack_rising is =
    subst (IsStepped look before) (sym is) (record {
      values = λ index.
          stands_at_each before entries held (merged-rising look look.multipliers.now look.slacks.now rising slack_rising) index
          ∙ ap (λ v. if is_entered entries index && is_none (refusal_of (at_turn before (with_entries before entries) index) index v) then v else value_at before.multipliers index)
          (merged-value look look.multipliers.now look.slacks.now index slack_rising)
          ∙ ap (λ b. if b && is_none (refusal_of (at_turn before (with_entries before entries) index) index (stepped look index)) then stepped look index else value_at before.multipliers index)
          (merged-entered look look.multipliers.now look.slacks.now index);
      cut = ap (λ p. p.cut) (entries-keep before entries);
    })
  where
    entries : List Entry
    entries = merged look look.multipliers.now look.slacks.now

-- the entry at a place is the first of those from there on
drop-at : (entries : List Entry) (place : ℕ) (entry : Entry) → slice_get entries place ≡ Some entry → drop place entries ≡ entry ∷ drop (place + 1) entries
drop-at [] place entry here = absurd cc
drop-at (x ∷ xs) zero entry here = let same : x ≡ entry = cc in ap (λ e. e ∷ xs) same
drop-at (x ∷ xs) (suc place) entry here =
    let next : suc (place + 1) ≡ suc place + 1 = omega arith in
    drop-at xs place entry here ∙ ap (λ n. entry ∷ drop n (x ∷ xs)) next

-- what is put at one slack, and then what is left
pub with-slack : (look : Look) (before after : Proposed) (entries rest slacks : List Entry) (place : ℕ) (slack : Entry) → slice_get slacks place ≡ Some slack →
    after ≡ with_entries before (below slack.index entries ++ moved_entry look slack ∷ []) → rest ≡ from_on (slack.index + 1) entries →
    with_entries after (merged look rest (drop (place + 1) slacks)) ≡ with_entries before (merged look entries (drop place slacks))
with-slack look before after entries rest slacks place slack here put left =
    let later : List Entry = merged look (from_on (slack.index + 1) entries) (drop (place + 1) slacks) in
    let joined : (below slack.index entries ++ moved_entry look slack ∷ []) ++ later ≡ below slack.index entries ++ (moved_entry look slack ∷ later) = rw append_assoc refl in
    ap (λ r. with_entries after (merged look r (drop (place + 1) slacks))) left
    ∙ ap (λ p. with_entries p later) put
    ∙ sym (with_entries-append before (below slack.index entries ++ moved_entry look slack ∷ []) later)
    ∙ ap (with_entries before) joined
    ∙ ap (λ xs. with_entries before (merged look entries xs)) (sym (drop-at slacks place slack here))

pub drop-end : (entries : List Entry) (place : ℕ) → length entries ≤ place → drop place entries ≡ []
drop-end [] zero past = refl
drop-end [] (suc place) past = refl
drop-end (x ∷ xs) zero past = absurd (omega (arith, past))
drop-end (x ∷ xs) (suc place) past = drop-end xs place (omega (arith, past))
