-- The words of a document have neither spaces nor line feeds.
use Rattle.std.proofs.Common.{◌≡◌, ℕ, suc, ◌^◌, ◌<◌, ◌≤◌, true, false, eqb, ℤ, pos, negsuc, List, [], ◌∷◌, length, map}
use Rattle.std.proofs.Common.{refl, arith, ◌⊎◌, inl, inr}
use Rattle.std.specs.Prelude.{codes, unsigned_abs}
use Rattle.std.specs.Fmt.{decimal, signed_decimal}
use Rattle.std.specs.List.{AllByRecursion}
use Rattle.std.proofs.lemmas.Fmt.{decimal_is_IsNumeral_wide}
use Rattle.std.proofs.lemmas.List.Elements.{recursion_from_All}
use Rattle.branch_tree.specs.declared.cuts.Cut.TheVariants.{Only, AtMost}
use Rattle.branch_tree.specs.declared.multipliers.Entry.{Entry}
use Rattle.branch_tree.specs.declared.tree.Node.{Node}
use Rattle.branch_tree.specs.declared.tree.Node.TheVariants.{Branch, CostLeaf, RayLeaf, EmptyLeaf}
use Rattle.rules.specs.declared.heads.Head.{Head}
use Rattle.rules.specs.declared.heads.Head.TheVariants.{Optimal, Infeasible, Bounded, BoundedPlan}
use Rattle.answer_text.specs.Limits.{AreEntries, IsAmount, IsHead, IsNode, IsRun}
use Rattle.answer_text.specs.Texts.{branchings_words, entries_words, entry_word, head_words, node_words, run_words}
use Rattle.answer_text.proofs.Digits.{own}
use Rattle.answer_text.proofs.Splitting.{all_lack, digits-lack, lacks, lacks-append}

-- a line feed, a space or a colon
abbrev pub IsMark : ℕ → Type 0
IsMark mark = (mark ≡ 10) ⊎ ((mark ≡ 32) ⊎ (mark ≡ 58))

pub decimal_lacks : (mark n : ℕ) → IsMark mark → n < 10 ^ 21 → lacks mark (decimal n) ≡ true
decimal_lacks mark n is small =
    let spelled = decimal_is_IsNumeral_wide n (omega (arith, small)) in
    digits-lack mark (decimal n) is (own.from (decimal n) spelled.0.1)

minus_other : (mark : ℕ) → IsMark mark → eqb 45 mark ≡ false
minus_other mark (inl e) = rw e refl
minus_other mark (inr (inl e)) = rw e refl
minus_other mark (inr (inr e)) = rw e refl

pub signed_lacks : (mark : ℕ) (z : ℤ) → IsMark mark → unsigned_abs z < 10 ^ 21 → lacks mark (signed_decimal z) ≡ true
signed_lacks mark (pos n) is small = decimal_lacks mark n is small
signed_lacks mark (negsuc n) is small = rw (minus_other mark is, decimal_lacks mark (suc n) is small) refl

-- a line feed or a space
abbrev pub IsBreak : ℕ → Type 0
IsBreak mark = (mark ≡ 10) ⊎ (mark ≡ 32)

is_mark : (mark : ℕ) → IsBreak mark → IsMark mark
is_mark mark (inl e) = inl e
is_mark mark (inr e) = inr (inl e)

literal : (mark : ℕ) (word : List ℕ) → IsBreak mark → lacks 10 word ≡ true → lacks 32 word ≡ true → lacks mark word ≡ true
literal mark word (inl e) p q = rw e p
literal mark word (inr e) p q = rw e q

amount_lacks : (mark : ℕ) (z : ℤ) → IsBreak mark → IsAmount z → lacks mark (signed_decimal z) ≡ true
amount_lacks mark z is within = signed_lacks mark z (is_mark mark is) (omega (arith, within))

number_lacks : (mark n most : ℕ) → IsBreak mark → n ≤ most → most < 10 ^ 21 → lacks mark (decimal n) ≡ true
number_lacks mark n most is within small = decimal_lacks mark n (is_mark mark is) (omega (arith, within, small))

pub head_lacks : (mark : ℕ) (head : Head) → IsBreak mark → IsHead head → all_lack mark (head_words head) ≡ true
head_lacks mark (Optimal cost) is h = rw (literal mark (codes "optimal") is refl refl, amount_lacks mark cost.0 is h) refl
head_lacks mark Infeasible is h = rw (literal mark (codes "infeasible") is refl refl) refl
head_lacks mark (Bounded bound) is h = rw (literal mark (codes "bounded") is refl refl, amount_lacks mark bound.0 is h) refl
head_lacks mark (BoundedPlan bound cost) is h =
    rw (literal mark (codes "bounded") is refl refl, amount_lacks mark bound.0 is h.0, literal mark (codes "plan") is refl refl, amount_lacks mark cost.0 is h.1) refl

pub branchings_lacks : (mark n : ℕ) → IsBreak mark → n ≤ 4000 → all_lack mark (branchings_words n) ≡ true
branchings_lacks mark n is h = rw (literal mark (codes "branchings") is refl refl, number_lacks mark n 4000 is h (omega arith)) refl

units_lack : (mark : ℕ) (units : List ℕ) → IsBreak mark → AllByRecursion (λ unit. unit < 2000) units → all_lack mark (map decimal units) ≡ true
units_lack mark [] is h = refl
units_lack mark (unit ∷ units) is h = rw (number_lacks mark unit 1999 is (omega (arith, h.0)) (omega arith), units_lack mark units is h.1) refl

pub run_lacks : (mark trip : ℕ) (units : List ℕ) → IsBreak mark → trip < 400 → IsRun units → all_lack mark (run_words trip units) ≡ true
run_lacks mark trip units is lt h =
    rw (literal mark (codes "run") is refl refl, number_lacks mark trip 400 is (omega (arith, lt)) (omega arith), units_lack mark units is (recursion_from_All (λ unit. unit < 2000) units h.numbers)) refl

entry_lacks : (mark : ℕ) (entry : Entry) → IsBreak mark → entry.index ≤ 999999 → unsigned_abs entry.value ≤ 1000000000000 → lacks mark (entry_word entry) ≡ true
entry_lacks mark entry is p q =
    lacks-append mark (decimal entry.index) (58 ∷ signed_decimal entry.value) (number_lacks mark entry.index 999999 is p (omega arith))
    (rw (colon mark is, signed_lacks mark entry.value (is_mark mark is) (omega (arith, q))) refl)
  where
    colon : (mark : ℕ) → IsBreak mark → eqb 58 mark ≡ false
    colon mark (inl e) = rw e refl
    colon mark (inr e) = rw e refl

each_lacks : (mark : ℕ) (entries : List Entry) → IsBreak mark → AllByRecursion (λ entry. entry.index ≤ 999999) entries → AllByRecursion (λ entry. unsigned_abs entry.value ≤ 1000000000000) entries
    → all_lack mark (map entry_word entries) ≡ true
each_lacks mark [] is p q = refl
each_lacks mark (entry ∷ entries) is p q = rw (entry_lacks mark entry is p.0 q.0, each_lacks mark entries is p.1 q.1) refl

entries_lack : (mark : ℕ) (entries : List Entry) → IsBreak mark → AreEntries entries → all_lack mark (entries_words entries) ≡ true
entries_lack mark entries is h =
    rw (
      number_lacks mark (length entries) 1000 is h.multipliers.few (omega arith),
      each_lacks mark entries is (recursion_from_All (λ entry. entry.index ≤ 999999) entries h.indices) (recursion_from_All (λ entry. unsigned_abs entry.value ≤ 1000000000000) entries h.multipliers.within),
    ) refl

pub node_lacks : (mark : ℕ) (node : Node) → IsBreak mark → IsNode node → all_lack mark (node_words node) ≡ true
node_lacks mark (Branch (Only trip comp)) is h =
    rw (literal mark (codes "only") is refl refl, number_lacks mark trip 400 is (omega (arith, h.0)) (omega arith), number_lacks mark comp 1000 is (omega (arith, h.1)) (omega arith)) refl
node_lacks mark (Branch (AtMost trip unit_type count)) is h =
    rw (
      literal mark (codes "most") is refl refl,
      number_lacks mark trip 400 is (omega (arith, h.0)) (omega arith),
      number_lacks mark unit_type 6 is (omega (arith, h.1)) (omega arith),
      number_lacks mark count 6 is (omega (arith, h.2)) (omega arith),
    ) refl
node_lacks mark (CostLeaf bound multipliers) is h =
    rw (literal mark (codes "cost") is refl refl, amount_lacks mark bound.0 is h.0, entries_lack mark multipliers is h.1) refl
node_lacks mark (RayLeaf multipliers) is h = rw (literal mark (codes "ray") is refl refl, entries_lack mark multipliers is h) refl
node_lacks mark EmptyLeaf is h = rw (literal mark (codes "empty") is refl refl) refl
