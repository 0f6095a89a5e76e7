-- What a node line is read as: its words are the words of that node, which is within the limits.
use Rattle.std.proofs.Common.{◌≡◌, ◌≢◌, ℕ, zero, suc, ◌+◌, ◌<◌, ◌≤◌, false, cond, ltb, pos, List, [], ◌∷◌, ◌++◌, length}
use Rattle.std.proofs.Common.{map, Option, Some, None, refl, sym, ap, subst, ◌∙◌, append_assoc, arith, inl, inr}
use Rattle.std.specs.Prelude.{codes, unsigned_abs}
use Rattle.std.specs.Fmt.{decimal, signed_decimal}
use Rattle.std.specs.List.{AllByRecursion}
use Rattle.std.specs.Str.{bytes_eq}
use Rattle.std.proofs.lemmas.Bool.Decides.{nat_tests}
use Rattle.std.proofs.lemmas.List.{append-nil}
use Rattle.std.proofs.lemmas.List.Elements.{All-from_recursion}
use Rattle.std.proofs.lemmas.List.Kept.{AllPairs-cons}
use Rattle.branch_tree.specs.declared.cuts.Cut.TheVariants.{Only, AtMost}
use Rattle.branch_tree.specs.declared.multipliers.Entry.{Entry}
use Rattle.branch_tree.specs.declared.tree.Node.{Node}
use Rattle.branch_tree.specs.declared.tree.Node.TheVariants.{Branch, CostLeaf, RayLeaf, EmptyLeaf}
use Rattle.branch_tree.specs.Entries.{AreRising}
use Rattle.answer_text.specs.declared.limits.TheConstants.{MAX_AMOUNT}
use Rattle.answer_text.specs.Limits.{AreEntries, IsNode}
use Rattle.answer_text.specs.Numbers.{◌>>=◌, at_end, next_number, next_signed}
use Rattle.answer_text.specs.Pieces.{pieces}
use Rattle.answer_text.specs.ReadLines.{cost_in, counted_in, empty_in, entries_in, most_in, next_entry, node_in}
use Rattle.answer_text.specs.ReadLines.{only_in, ray_in}
use Rattle.answer_text.specs.Texts.{entries_words, entry_word, node_words}
use Rattle.answer_text.proofs.Adding.{IsRead, next_entry_sound}
use Rattle.answer_text.proofs.Signs.{bind_some, branch, some_is}
use Rattle.answer_text.proofs.Sound.{none_some, first_is, at_end_sound, next_number_sound, next_signed_sound}
use Rattle.answer_text.proofs.Splitting.{joined, joined-pieces}

-- ---- entries

-- entries within the limits, by rising index from the least one on
abbrev pub FromLeast : ℕ → List Entry → Type 0
FromLeast least [] = Unit {0}
FromLeast least (entry ∷ entries) = (least ≤ entry.index) × IsRead entry × FromLeast (entry.index + 1) entries

above : (least bound : ℕ) (entries : List Entry) → bound < least → FromLeast least entries → AllByRecursion (λ other. bound < other.index) entries
above least bound [] lt h = tt
above least bound (entry ∷ entries) lt h = (omega (arith, lt, h.0), above (entry.index + 1) bound entries (omega (arith, lt, h.0)) h.2)

rising : (least : ℕ) (entries : List Entry) → FromLeast least entries → AreRising entries
rising least [] h = λ i j d less inside. absurd (omega (arith, inside))
rising least (entry ∷ entries) h =
    AllPairs-cons (λ a b. a.index < b.index) entry entries
    (All-from_recursion (λ other. entry.index < other.index) entries (above (entry.index + 1) entry.index entries (omega arith) h.2)) (rising (entry.index + 1) entries h.2)

each : (least : ℕ) (entries : List Entry) → FromLeast least entries → AllByRecursion IsRead entries
each least [] h = tt
each least (entry ∷ entries) h = (h.1, each (entry.index + 1) entries h.2)

weaken : {P Q : Entry → Type 0} → ((entry : Entry) → P entry → Q entry) → (entries : List Entry) → AllByRecursion P entries → AllByRecursion Q entries
weaken f [] h = tt
weaken f (entry ∷ entries) h = (f entry h.0, weaken f entries h.1)

are_entries : (entries : List Entry) → length entries ≤ 1000 → FromLeast 0 entries → AreEntries entries
are_entries entries few h =
    let read = each 0 entries h in
    record {
      multipliers = record {
        rising = rising 0 entries h;
        not_zero = All-from_recursion (λ entry. entry.value ≢ pos 0) entries (weaken (λ entry r. r.other) entries read);
        within = All-from_recursion (λ entry. unsigned_abs entry.value ≤ 1000000000000) entries (weaken (λ entry r. r.size) entries read);
        few = few;
      };
      indices = All-from_recursion (λ entry. entry.index ≤ 999999) entries (weaken (λ entry r. r.index) entries read);
    }

entry_word_is : (word : List ℕ) (entry : Entry) → pieces 58 word ≡ decimal entry.index ∷ signed_decimal entry.value ∷ [] → word ≡ entry_word entry
entry_word_is word entry h = sym (joined-pieces 58 word) ∙ ap (joined 58) h

entries_sound : (count least : ℕ) (entries : List Entry) (words : List (List ℕ)) (all : List Entry) → entries_in count least entries words ≡ Some all
    → (more : List Entry) × (all ≡ entries ++ more) × (words ≡ map entry_word more) × (length more ≡ count) × FromLeast least more
unfolding entries_in
entries_sound zero least entries words all e =
    let last = at_end_sound words entries all e in
    ([], sym last.1 ∙ sym (append-nil entries), last.0, refl, tt)
entries_sound (suc count) least entries words all e =
    let next = bind_some (next_entry words) (λ next. cond (ltb next.0.index least) None (entries_in count (next.0.index + 1) (entries ++ next.0 ∷ []) next.1)) all e in
    let entry = next.0.0 in
    let sound = next_entry_sound words entry next.0.1 next.1 in
    elim (branch (ltb entry.index least) None (entries_in count (entry.index + 1) (entries ++ entry ∷ []) next.0.1) (Some all) next.2) [
      | inl falls ↦ absurd (none_some all falls.1)
      | inr rises ↦
          let rest = entries_sound count (entry.index + 1) (entries ++ entry ∷ []) next.0.1 all rises.1 in (
            entry ∷ rest.0,
            rest.1 ∙ append_assoc entries (entry ∷ []) rest.0,
            sound.1 ∙ (λ i. entry_word_is sound.0 entry sound.2 i ∷ rest.2 i),
            ap suc rest.3,
            (not_lt entry.index least rises.0, sound.3, rest.4),
          )
    ]
  where
    not_lt : (a b : ℕ) → ltb a b ≡ false → b ≤ a
    not_lt a b h = grind (arith, nat_tests)

counted_sound : (words : List (List ℕ)) (entries : List Entry) → counted_in words ≡ Some entries → (words ≡ entries_words entries) × AreEntries entries
unfolding counted_in
counted_sound words entries e =
    let count = bind_some (next_number 1000 words) (λ count. entries_in count.0 0 [] count.1) entries e in
    let read = next_number_sound 1000 words count.0 count.1 in
    let all = entries_sound count.0.0 0 [] count.0.1 entries count.2 in (
      read.0 ∙ (λ i. decimal (counted count.0.0 all.0 entries all.3 all.1 i) ∷ (all.2 ∙ ap (map entry_word) (sym all.1)) i),
      are_entries entries (omega (arith, read.1, counted count.0.0 all.0 entries all.3 all.1)) (subst (FromLeast 0) (sym all.1) all.4),
    )
  where
    counted : (count : ℕ) (more entries : List Entry) → length more ≡ count → entries ≡ more → count ≡ length entries
    counted count more entries h e = sym h ∙ ap length (sym e)

-- ---- cuts

only_sound : (words : List (List ℕ)) (node : Node) → only_in words ≡ Some node → (codes "only" ∷ words ≡ node_words node) × IsNode node
unfolding only_in
only_sound words node e =
    let trip = bind_some (next_number 399 words) (λ trip. next_number 999 trip.1 >>= λ comp. at_end comp.1 (Branch (Only trip.0 comp.0))) node e in
    let comp = bind_some (next_number 999 trip.0.1) (λ comp. at_end comp.1 (Branch (Only trip.0.0 comp.0))) node trip.2 in
    let first = next_number_sound 399 words trip.0 trip.1 in
    let second = next_number_sound 999 trip.0.1 comp.0 comp.1 in
    let last = at_end_sound comp.0.1 (Branch (Only trip.0.0 comp.0.0)) node comp.2 in
    subst (λ (n : Node). (codes "only" ∷ words ≡ node_words n) × IsNode n) last.1 (
      ap (λ (ws : List (List ℕ)). codes "only" ∷ ws) (first.0 ∙ ap (λ (ws : List (List ℕ)). decimal trip.0.0 ∷ ws) (second.0 ∙ ap (λ (ws : List (List ℕ)). decimal comp.0.0 ∷ ws) last.0)),
      (omega (arith, first.1), omega (arith, second.1)),
    )

most_sound : (words : List (List ℕ)) (node : Node) → most_in words ≡ Some node → (codes "most" ∷ words ≡ node_words node) × IsNode node
unfolding most_in
most_sound words node e =
    let trip = bind_some (next_number 399 words) (λ trip. next_number 5 trip.1 >>= λ unit_type. next_number 5 unit_type.1 >>= λ count. at_end count.1 (Branch (AtMost trip.0 unit_type.0 count.0))) node e in
    let unit_type = bind_some (next_number 5 trip.0.1) (λ unit_type. next_number 5 unit_type.1 >>= λ count. at_end count.1 (Branch (AtMost trip.0.0 unit_type.0 count.0))) node trip.2 in
    let count = bind_some (next_number 5 unit_type.0.1) (λ count. at_end count.1 (Branch (AtMost trip.0.0 unit_type.0.0 count.0))) node unit_type.2 in
    let first = next_number_sound 399 words trip.0 trip.1 in
    let second = next_number_sound 5 trip.0.1 unit_type.0 unit_type.1 in
    let third = next_number_sound 5 unit_type.0.1 count.0 count.1 in
    let last = at_end_sound count.0.1 (Branch (AtMost trip.0.0 unit_type.0.0 count.0.0)) node count.2 in
    subst (λ (n : Node). (codes "most" ∷ words ≡ node_words n) × IsNode n) last.1 (
      ap (λ (ws : List (List ℕ)). codes "most" ∷ ws) (first.0 ∙ ap (λ (ws : List (List ℕ)). decimal trip.0.0 ∷ ws) (second.0 ∙ ap (λ (ws : List (List ℕ)). decimal unit_type.0.0 ∷ ws)
          (third.0 ∙ ap (λ (ws : List (List ℕ)). decimal count.0.0 ∷ ws) last.0))),
      (omega (arith, first.1), omega (arith, second.1), omega (arith, third.1)),
    )

-- ---- leaves

cost_sound : (words : List (List ℕ)) (node : Node) → cost_in words ≡ Some node → (codes "cost" ∷ words ≡ node_words node) × IsNode node
unfolding cost_in
cost_sound words node e =
    let bound = bind_some (next_signed MAX_AMOUNT words) (λ bound. counted_in bound.1 >>= λ entries. Some (CostLeaf (record { 0 = bound.0 }) entries)) node e in
    let entries = bind_some (counted_in bound.0.1) (λ entries. Some (CostLeaf (record { 0 = bound.0.0 }) entries)) node bound.2 in
    let first = next_signed_sound MAX_AMOUNT words bound.0 bound.1 in
    let second = counted_sound bound.0.1 entries.0 entries.1 in
    subst (λ (n : Node). (codes "cost" ∷ words ≡ node_words n) × IsNode n) (some_is (CostLeaf (record { 0 = bound.0.0 }) entries.0) node entries.2)
    (ap (λ (ws : List (List ℕ)). codes "cost" ∷ ws) (first.0 ∙ ap (λ (ws : List (List ℕ)). signed_decimal bound.0.0 ∷ ws) second.0), (first.1, second.1))

ray_sound : (words : List (List ℕ)) (node : Node) → ray_in words ≡ Some node → (codes "ray" ∷ words ≡ node_words node) × IsNode node
unfolding ray_in
ray_sound words node e =
    let entries = bind_some (counted_in words) (λ entries. Some (RayLeaf entries)) node e in
    let second = counted_sound words entries.0 entries.1 in
    subst (λ (n : Node). (codes "ray" ∷ words ≡ node_words n) × IsNode n) (some_is (RayLeaf entries.0) node entries.2)
    (ap (λ (ws : List (List ℕ)). codes "ray" ∷ ws) second.0, second.1)

empty_sound : (words : List (List ℕ)) (node : Node) → empty_in words ≡ Some node → (codes "empty" ∷ words ≡ node_words node) × IsNode node
unfolding empty_in
empty_sound words node e =
    let last = at_end_sound words EmptyLeaf node e in
    subst (λ (n : Node). (codes "empty" ∷ words ≡ node_words n) × IsNode n) last.1 (ap (λ (ws : List (List ℕ)). codes "empty" ∷ ws) last.0, tt)

pub node_sound : (words : List (List ℕ)) (node : Node) → node_in words ≡ Some node → (words ≡ node_words node) × IsNode node
unfolding node_in
node_sound [] node e = absurd cc
node_sound (word ∷ words) node e =
    let after_ray : Option Node = cond (bytes_eq word (codes "empty")) (empty_in words) None in
    let after_cost : Option Node = cond (bytes_eq word (codes "ray")) (ray_in words) after_ray in
    let after_most : Option Node = cond (bytes_eq word (codes "cost")) (cost_in words) after_cost in
    let after_only : Option Node = cond (bytes_eq word (codes "most")) (most_in words) after_most in
    elim (branch (bytes_eq word (codes "only")) (only_in words) after_only (Some node) e) [
      | inl here ↦ let sound = only_sound words node here.1 in (first_is word (codes "only") words here.0 ∙ sound.0, sound.1)
      | inr other ↦ elim (branch (bytes_eq word (codes "most")) (most_in words) after_most (Some node) other.1) [
        | inl here ↦ let sound = most_sound words node here.1 in (first_is word (codes "most") words here.0 ∙ sound.0, sound.1)
        | inr other ↦ elim (branch (bytes_eq word (codes "cost")) (cost_in words) after_cost (Some node) other.1) [
          | inl here ↦ let sound = cost_sound words node here.1 in (first_is word (codes "cost") words here.0 ∙ sound.0, sound.1)
          | inr other ↦ elim (branch (bytes_eq word (codes "ray")) (ray_in words) after_ray (Some node) other.1) [
            | inl here ↦ let sound = ray_sound words node here.1 in (first_is word (codes "ray") words here.0 ∙ sound.0, sound.1)
            | inr other ↦ elim (branch (bytes_eq word (codes "empty")) (empty_in words) None (Some node) other.1) [
              | inl here ↦ let sound = empty_sound words node here.1 in (first_is word (codes "empty") words here.0 ∙ sound.0, sound.1)
              | inr nothing ↦ absurd (none_some node nothing.1)
            ]
          ]
        ]
      ]
    ]
