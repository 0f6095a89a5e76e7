-- The words of what is within the limits are read as that again.
use Rattle.std.proofs.Common.{◌≡◌, ◌≢◌, ℕ, zero, suc, ◌+◌, ◌^◌, ◌<◌, ◌≤◌, true, false, eqb, ltb, ℤ, pos, List, [], ◌∷◌}
use Rattle.std.proofs.Common.{◌++◌, length, map, get_or, Some, refl, sym, ap, ◌∙◌, append_assoc, arith, inr}
use Rattle.std.specs.Prelude.{codes, unsigned_abs}
use Rattle.std.specs.Fmt.{decimal, signed_decimal}
use Rattle.std.specs.List.{AllByRecursion}
use Rattle.std.proofs.lemmas.Bool.Decides.{nat_tests}
use Rattle.std.proofs.lemmas.List.{append-nil}
use Rattle.std.proofs.lemmas.List.Elements.{recursion_from_All}
use Rattle.rail_base.specs.declared.limits.TheConstants.{MAX_BRANCHINGS}
use Rattle.branch_tree.specs.declared.cuts.Cut.TheVariants.{Only, AtMost}
use Rattle.branch_tree.specs.declared.multipliers.Entry.{Entry}
use Rattle.branch_tree.specs.declared.tree.Node.{Node}
use Rattle.branch_tree.specs.declared.tree.Node.TheVariants.{Branch, CostLeaf, RayLeaf, EmptyLeaf}
use Rattle.branch_tree.specs.Entries.{AreRising}
use Rattle.rules.specs.declared.heads.Head.{Head}
use Rattle.rules.specs.declared.heads.Head.TheVariants.{Optimal, Infeasible, Bounded, BoundedPlan}
use Rattle.answer_text.specs.declared.limits.TheConstants.{MAX_AMOUNT}
use Rattle.answer_text.specs.Limits.{AreEntries, IsAmount, IsHead, IsNode, IsRun}
use Rattle.answer_text.specs.Numbers.{at_end, next_number, next_signed}
use Rattle.answer_text.specs.Pieces.{pieces}
use Rattle.answer_text.specs.ReadLines.{bounded_in, bounded_plan_in, branchings_in, cost_in, counted_in, empty_in}
use Rattle.answer_text.specs.ReadLines.{entries_in, entry_in, entry_of, head_in, most_in, next_entry, next_is, node_in}
use Rattle.answer_text.specs.ReadLines.{only_in, optimal_in, ray_in, run_in, units_in}
use Rattle.answer_text.specs.Texts.{branchings_words, entries_words, entry_word, head_words, node_words, run_words}
use Rattle.answer_text.proofs.Adding.{IsRead}
use Rattle.answer_text.proofs.Clean.{decimal_lacks, signed_lacks}
use Rattle.answer_text.proofs.Leaves.{FromLeast}
use Rattle.answer_text.proofs.Numerals.{number_again}
use Rattle.answer_text.proofs.Signs.{nonzero_again, signed_again}
use Rattle.answer_text.proofs.Splitting.{pieces-front, pieces-alone}

next_number_again : (most n : ℕ) (words : List (List ℕ)) → n ≤ most → most < 10 ^ 21 → next_number most (decimal n ∷ words) ≡ Some (n, words)
unfolding next_number
next_number_again most n words within small = rw (number_again most n within small) refl

next_amount_again : (z : ℤ) (words : List (List ℕ)) → IsAmount z → next_signed MAX_AMOUNT (signed_decimal z ∷ words) ≡ Some (z, words)
unfolding next_signed
next_amount_again z words within = rw (signed_again MAX_AMOUNT z within (omega arith)) refl

-- ---- the head

optimal_again : (cost : ℤ) → IsAmount cost → optimal_in (signed_decimal cost ∷ []) ≡ Some (Optimal (record { 0 = cost }))
unfolding optimal_in at_end
optimal_again cost within = rw (next_amount_again cost [] within) refl

bounded_again : (bound : ℤ) → IsAmount bound → bounded_in (signed_decimal bound ∷ []) ≡ Some (Bounded (record { 0 = bound }))
unfolding bounded_in
bounded_again bound within = rw (next_amount_again bound [] within) refl

plan_again : (bound cost : ℤ) → IsAmount cost → bounded_plan_in bound (codes "plan" ∷ signed_decimal cost ∷ []) ≡ Some (BoundedPlan (record { 0 = bound }) (record { 0 = cost }))
unfolding bounded_plan_in next_is at_end
plan_again bound cost within = rw (next_amount_again cost [] within) refl

bounded_plan_again : (bound cost : ℤ) → IsAmount bound → IsAmount cost
    → bounded_in (signed_decimal bound ∷ codes "plan" ∷ signed_decimal cost ∷ []) ≡ Some (BoundedPlan (record { 0 = bound }) (record { 0 = cost }))
unfolding bounded_in
bounded_plan_again bound cost first second = rw (next_amount_again bound (codes "plan" ∷ signed_decimal cost ∷ []) first, plan_again bound cost second) refl

pub head_again : (head : Head) → IsHead head → head_in (head_words head) ≡ Some head
unfolding head_in at_end
head_again (Optimal cost) within = optimal_again cost.0 within
head_again Infeasible within = refl
head_again (Bounded bound) within = bounded_again bound.0 within
head_again (BoundedPlan bound cost) within = bounded_plan_again bound.0 cost.0 within.0 within.1

pub branchings_again : (number : ℕ) → number ≤ MAX_BRANCHINGS → branchings_in (branchings_words number) ≡ Some number
unfolding branchings_in next_is at_end
branchings_again number within = rw (next_number_again MAX_BRANCHINGS number [] within (omega arith)) refl

-- ---- a run

units_again : (room : ℕ) (units more : List ℕ) → length more ≤ room → AllByRecursion (λ unit. unit < 2000) more → units_in room units (map decimal more) ≡ Some (units ++ more)
unfolding units_in
units_again room units [] few h = ap Some (sym (append-nil units))
units_again zero units (unit ∷ more) few h = absurd (omega (arith, few))
units_again (suc room) units (unit ∷ more) few h =
    rw (number_again 1999 unit (omega (arith, h.0)) (omega arith)) (units_again room (units ++ unit ∷ []) more (omega (arith, few)) h.1 ∙ ap Some (append_assoc units (unit ∷ []) more))

pub run_again : (trip : ℕ) (units : List ℕ) → trip < 400 → IsRun units → run_in trip (run_words trip units) ≡ Some units
unfolding run_in next_is
run_again trip units lt h =
    rw (next_number_again 400 trip (map decimal units) (omega (arith, lt)) (omega arith), same trip)
    (units_again 6 [] units h.few (recursion_from_All (λ unit. unit < 2000) units h.numbers))
  where
    same : (n : ℕ) → eqb n n ≡ true
    same n = grind (arith, nat_tests)

-- ---- entries

entry_again : (entry : Entry) → IsRead entry → entry_in (pieces 58 (entry_word entry)) ≡ Some entry
unfolding entry_in entry_of
entry_again entry h =
    let cut : pieces 58 (entry_word entry) ≡ decimal entry.index ∷ signed_decimal entry.value ∷ [] =
    pieces-front 58 (decimal entry.index) (signed_decimal entry.value) (decimal_lacks 58 entry.index (inr (inr refl)) (omega (arith, h.index)))
    ∙ ap (λ (ps : List (List ℕ)). decimal entry.index ∷ ps) (pieces-alone 58 (signed_decimal entry.value) (signed_lacks 58 entry.value (inr (inr refl)) (omega (arith, h.size)))) in
    ap entry_in cut ∙ rw (number_again 999999 entry.index h.index (omega arith), nonzero_again 1000000000000 entry.value h.size (omega arith) h.other) refl

entries_again : (least : ℕ) (before entries : List Entry) → FromLeast least entries → entries_in (length entries) least before (map entry_word entries) ≡ Some (before ++ entries)
unfolding entries_in next_entry at_end
entries_again least before [] h = ap Some (sym (append-nil before))
entries_again least before (entry ∷ entries) h =
    rw (entry_again entry h.1, not_lt entry.index least h.0)
    (entries_again (entry.index + 1) (before ++ entry ∷ []) entries h.2 ∙ ap Some (append_assoc before (entry ∷ []) entries))
  where
    not_lt : (a b : ℕ) → b ≤ a → ltb a b ≡ false
    not_lt a b h = grind (arith, nat_tests)

reads : (entries : List Entry) → AllByRecursion (λ entry. entry.index ≤ 999999) entries → AllByRecursion (λ entry. unsigned_abs entry.value ≤ 1000000000000) entries → AllByRecursion (λ entry. entry.value ≢ pos 0) entries
    → AreRising entries → (least : ℕ) → ((k : ℕ) (d : Entry) → k < length entries → least ≤ (get_or entries k d).index) → FromLeast least entries
reads [] p q r rising least from = tt
reads (entry ∷ entries) p q r rising least from = (
  from 0 entry (omega arith),
  record { index = p.0; size = q.0; other = r.0 },
  reads entries p.1 q.1 r.1 (λ i j d less inside. rising (suc i) (suc j) d (omega (arith, less)) (omega (arith, inside))) (entry.index + 1)
      (λ k d inside. omega (arith, rising 0 (suc k) d (omega arith) (omega (arith, inside)))),
)

pub from_entries : (entries : List Entry) → AreEntries entries → FromLeast 0 entries
from_entries entries h =
    reads entries (recursion_from_All (λ entry. entry.index ≤ 999999) entries h.indices)
    (recursion_from_All (λ entry. unsigned_abs entry.value ≤ 1000000000000) entries h.multipliers.within)
    (recursion_from_All (λ entry. entry.value ≢ pos 0) entries h.multipliers.not_zero) h.multipliers.rising 0 (λ k d inside. omega arith)

counted_again : (entries : List Entry) → AreEntries entries → counted_in (entries_words entries) ≡ Some entries
unfolding counted_in
counted_again entries h =
    rw (next_number_again 1000 (length entries) (map entry_word entries) h.multipliers.few (omega arith)) (entries_again 0 [] entries (from_entries entries h))

-- ---- nodes

only_again : (trip comp : ℕ) → trip < 400 → comp < 1000 → only_in (decimal trip ∷ decimal comp ∷ []) ≡ Some (Branch (Only trip comp))
unfolding only_in at_end
only_again trip comp p q =
    rw (next_number_again 399 trip (decimal comp ∷ []) (omega (arith, p)) (omega arith), next_number_again 999 comp [] (omega (arith, q)) (omega arith)) refl

most_again : (trip unit_type count : ℕ) → trip < 400 → unit_type < 6 → count < 6 → most_in (decimal trip ∷ decimal unit_type ∷ decimal count ∷ []) ≡ Some (Branch (AtMost trip unit_type count))
unfolding most_in at_end
most_again trip unit_type count p q r =
    rw (
      next_number_again 399 trip (decimal unit_type ∷ decimal count ∷ []) (omega (arith, p)) (omega arith),
      next_number_again 5 unit_type (decimal count ∷ []) (omega (arith, q)) (omega arith),
      next_number_again 5 count [] (omega (arith, r)) (omega arith),
    ) refl

cost_again : (bound : ℤ) (entries : List Entry) → IsAmount bound → AreEntries entries → cost_in (signed_decimal bound ∷ entries_words entries) ≡ Some (CostLeaf (record { 0 = bound }) entries)
unfolding cost_in
cost_again bound entries p q = rw (next_amount_again bound (entries_words entries) p, counted_again entries q) refl

ray_again : (entries : List Entry) → AreEntries entries → ray_in (entries_words entries) ≡ Some (RayLeaf entries)
unfolding ray_in
ray_again entries q = rw (counted_again entries q) refl

pub node_again : (node : Node) → IsNode node → node_in (node_words node) ≡ Some node
unfolding node_in empty_in at_end
node_again (Branch (Only trip comp)) within = only_again trip comp within.0 within.1
node_again (Branch (AtMost trip unit_type count)) within = most_again trip unit_type count within.0 within.1 within.2
node_again (CostLeaf bound multipliers) within = cost_again bound.0 multipliers within.0 within.1
node_again (RayLeaf multipliers) within = ray_again multipliers within
node_again EmptyLeaf within = refl
