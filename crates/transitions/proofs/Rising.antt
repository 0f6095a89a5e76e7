-- Pairs that were sorted, with no pair twice, are in order.
use Rattle.std.proofs.Common.{◌≡◌, ℕ, ◌<◌, Bool, true, List, [], ◌∷◌, get_or, inl, inr, refl, ap, ◌∙◌, arith, nat_cmp}
use Rattle.std.proofs.Common.{Ordering, Less, Equal, Greater, AllPairs, Contains}
use Rattle.std.specs.Prelude.{◌&&◌, ◌==◌}
use Rattle.std.specs.Cmp.{ranks, IsTotalOrder, IsEquivalence, nat_cmp_total, nat_eq_equiv, unsigned_ties}
use Rattle.std.specs.List.{dedup}
use Rattle.std.specs.List.Sorted.{IsSorted, IsStrictlySortedBy}
use Rattle.std.specs.Ordering.{MatchOrdering, ordering_then, eq_by_cmp, is_eq}
use Rattle.std.proofs.lemmas.Bool.{and_parts, eqb-true}
use Rattle.std.proofs.lemmas.Cmp.{then_total, on_total, and_equiv, on_equiv}
use Rattle.std.proofs.lemmas.List.Elements.{All-from_recursion}
use Rattle.std.proofs.lemmas.List.Kept.{AllPairs-cons, IsStrictlySortedBy-dedup, Contains-dedup}
use Rattle.transitions.specs.declared.pairs.Pair.{Pair}
use Rattle.transitions.specs.Pairs.{IsBeforePair}

abbrev pub order_of : Pair → Pair → Ordering
order_of x y = ordering_then (nat_cmp x.from y.from) (nat_cmp x.to y.to)

abbrev pub are_equal : Pair → Pair → Bool
are_equal x y = (x.from == y.from) && (x.to == y.to)

less : (x y : Pair) → order_of x y ≡ Less → IsBeforePair x y
less x y = at (nat_cmp x.from y.from) (nat_cmp x.to y.to) (ranks x.from y.from) (ranks x.to y.to)
  where
    at : (o p : Ordering) → MatchOrdering o (x.from < y.from) (x.from ≡ y.from) (y.from < x.from) → MatchOrdering p (x.to < y.to) (x.to ≡ y.to) (y.to < x.to)
        → ordering_then o p ≡ Less → IsBeforePair x y
    at Less p l m e = inl l
    at Equal Less l m e = inr (l, m)
    at Equal Equal l m e = absurd cc
    at Equal Greater l m e = absurd cc
    at Greater p l m e = absurd cc

both_equal : (o p : Ordering) → (is_eq o && is_eq p) ≡ is_eq (ordering_then o p)
both_equal Less p = refl
both_equal Equal p = refl
both_equal Greater p = refl

ties : (x y : Pair) → are_equal x y ≡ eq_by_cmp order_of x y
ties x y =
    ap (λ (b : Bool). b && (x.to == y.to)) (unsigned_ties x.from y.from) ∙ ap (λ (b : Bool). is_eq (nat_cmp x.from y.from) && b) (unsigned_ties x.to y.to)
    ∙ both_equal (nat_cmp x.from y.from) (nat_cmp x.to y.to)

total : IsTotalOrder order_of
total = then_total (on_total (λ (p : Pair). p.from) nat_cmp_total) (on_total (λ (p : Pair). p.to) nat_cmp_total)

equivalence : IsEquivalence are_equal
equivalence = and_equiv (on_equiv (λ (p : Pair). p.from) nat_eq_equiv) (on_equiv (λ (p : Pair). p.to) nat_eq_equiv)

are_one : (x y : Pair) → are_equal x y ≡ true → x ≡ y
are_one x y e =
    let both = and_parts (x.from == y.from) (x.to == y.to) e in
    ap (λ (n : ℕ). record { from = n; to = x.to }) (eqb-true x.from y.from both.0) ∙ ap (λ (n : ℕ). record { from = y.from; to = n }) (eqb-true x.to y.to both.1)

strictly : (pairs : List Pair) → IsStrictlySortedBy order_of pairs → AllPairs IsBeforePair pairs
unfolding IsStrictlySortedBy
strictly [] sorted = λ i j d before below. absurd (omega arith)
strictly (x ∷ xs) sorted =
    AllPairs-cons IsBeforePair x xs (λ k d below. less x (get_or xs k d) (All-from_recursion (λ (y : Pair). order_of x y ≡ Less) xs sorted.0 k d below)) (strictly xs sorted.1)

pub in_order : (pairs : List Pair) → IsSorted order_of pairs → AllPairs IsBeforePair (dedup are_equal pairs)
in_order pairs sorted = strictly (dedup are_equal pairs) (IsStrictlySortedBy-dedup total ties pairs sorted)

pub all_there : (pairs : List Pair) (x : Pair) → Contains pairs x → Contains (dedup are_equal pairs) x
all_there pairs x there = Contains-dedup equivalence are_one pairs x there
