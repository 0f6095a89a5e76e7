-- A binary search among edges in order.
use Rattle.std.proofs.Common.{◌≡◌, ℕ, ◌<◌, ◌≤◌, List, inl, inr, get_or, sym, ap, subst, ◌∙◌, arith, Contains, nat_cmp}
use Rattle.std.proofs.Common.{Ordering, Less, Equal, Greater}
use Rattle.std.specs.Prelude.{◌⊎◌}
use Rattle.std.specs.Cmp.{ranks}
use Rattle.std.specs.List.{HoldsAt}
use Rattle.std.specs.List.Sorted.{IsNonDecreasingBy, IsPartitionPoint}
use Rattle.std.specs.Ordering.{MatchOrdering, ordering_then, ordering_index}
use Rattle.std.proofs.lemmas.Bool.{cases_lt}
use Rattle.transitions.specs.declared.edge.Edge.{Edge}
use Rattle.transitions.specs.Edges.{IsBefore, AreInOrder}
use Rattle.transitions.specs.Between.{IsBetween, order_to}

-- the edge goes from a composition below from, or from it to one below to
abbrev pub IsUpTo : ℕ → ℕ → Edge → Type 0
IsUpTo from to edge = (edge.from < from) ⊎ ((edge.from ≡ from) × (edge.to < to))

-- an edge before one that is before the pair, or between the two, is before the pair
before_lower : (from to : ℕ) (x y : Edge) → IsBefore x y → IsUpTo from to y → IsUpTo from to x
before_lower from to x y (inl l) (inl m) = inl (omega arith)
before_lower from to x y (inl l) (inr m) = inl (omega (arith, m.0))
before_lower from to x y (inr l) (inl m) = inl (omega (arith, l.0))
before_lower from to x y (inr l) (inr m) = inr (l.0 ∙ m.0, omega (arith, l.1, m.1))

before_same : (from to : ℕ) (x y : Edge) → IsBefore x y → IsBetween from to y → IsUpTo from to x
before_same from to x y (inl l) between = inl (omega (arith, between.origin))
before_same from to x y (inr l) between = inr (l.0 ∙ between.origin, omega (arith, l.1, between.goal))

-- the edge comes after the pair
abbrev IsPast : ℕ → ℕ → Edge → Type 0
IsPast from to x = (from < x.from) ⊎ ((from ≡ x.from) × (to < x.to))

lower_or_same : (from to : ℕ) (x : Edge) → IsUpTo from to x → IsBetween from to x → ⊥
lower_or_same from to x (inl l) between = absurd (omega (arith, between.origin))
lower_or_same from to x (inr l) between = absurd (omega (arith, l.1, between.goal))

lower_or_past : (from to : ℕ) (x : Edge) → IsUpTo from to x → IsPast from to x → ⊥
lower_or_past from to x (inl l) (inl m) = absurd (omega arith)
lower_or_past from to x (inl l) (inr m) = absurd (omega (arith, m.0))
lower_or_past from to x (inr l) (inl m) = absurd (omega (arith, l.0))
lower_or_past from to x (inr l) (inr m) = absurd (omega (arith, l.1, m.1))

past_or_same : (from to : ℕ) (x : Edge) → IsPast from to x → IsBetween from to x → ⊥
past_or_same from to x (inl l) between = absurd (omega (arith, between.origin))
past_or_same from to x (inr l) between = absurd (omega (arith, l.1, between.goal))

-- what an answer says of the edge
abbrev Stands : ℕ → ℕ → Edge → Ordering → Type 0
Stands from to x o = MatchOrdering o (IsUpTo from to x) (IsBetween from to x) (IsPast from to x)

stands : (from to : ℕ) (x : Edge) → Stands from to x (order_to from to x)
stands from to x = at (nat_cmp x.from from) (nat_cmp x.to to) (ranks x.from from) (ranks x.to to)
  where
    at : (o p : Ordering) → MatchOrdering o (x.from < from) (x.from ≡ from) (from < x.from) → MatchOrdering p (x.to < to) (x.to ≡ to) (to < x.to) → Stands from to x (ordering_then o p)
    at Less p l m = inl l
    at Equal Less l m = inr (l, m)
    at Equal Equal l m = record { origin = l; goal = m }
    at Equal Greater l m = inr (sym l, m)
    at Greater p l m = inl l

-- the answers rise
rises : (from to : ℕ) (x y : Edge) → IsBefore x y → ordering_index (order_to from to x) ≤ ordering_index (order_to from to y)
rises from to x y before = at (order_to from to x) (order_to from to y) (stands from to x) (stands from to y)
  where
    at : (o p : Ordering) → Stands from to x o → Stands from to y p → ordering_index o ≤ ordering_index p
    at Less p l m = omega arith
    at Equal Less l m = absurd (lower_or_same from to x (before_lower from to x y before m) l)
    at Equal Equal l m = omega arith
    at Equal Greater l m = omega arith
    at Greater Less l m = absurd (lower_or_past from to x (before_lower from to x y before m) l)
    at Greater Equal l m = absurd (lower_or_past from to x (before_same from to x y before m) l)
    at Greater Greater l m = omega arith

module _ (edges : List Edge) (in_order : AreInOrder edges) (from to : ℕ) where
  answers_rise : IsNonDecreasingBy (λ y. ordering_index (order_to from to y)) edges
  answers_rise i j d upto below = elim (cases_lt i j) [
    | inl l ↦ rises from to (get_or edges i d) (get_or edges j d) (in_order i j d l below)
    | inr l ↦
        let same : i ≡ j = omega arith in
        subst (λ (k : ℕ). ordering_index (order_to from to (get_or edges i d)) ≤ ordering_index (order_to from to (get_or edges k d))) same (omega arith)
  ]

  -- the edge at the place that is answered
  pub place_found : (i : ℕ) (e : Edge) → e ≡ get_or edges i e → HoldsAt (λ y. order_to from to y ≡ Equal) edges i → IsBetween from to e
  place_found i e is here = subst (Stands from to e) (ap (order_to from to) is ∙ here e) (stands from to e)

  -- where no place is answered
  pub place_missing : (i : ℕ) → (IsNonDecreasingBy (λ y. ordering_index (order_to from to y)) edges → IsPartitionPoint (λ y. order_to from to y ≡ Less) (λ y. order_to from to y ≡ Greater) edges i)
      → (x : Edge) → Contains edges x → IsBetween from to x → ⊥
  place_missing i parted x there between =
      let parts = parted answers_rise in
      elim (cases_lt there.0 i) [
        | inl l ↦ lower_or_same from to x (subst (Stands from to x) (ap (order_to from to) (sym there.2) ∙ parts.0 there.0 x (omega arith) l) (stands from to x)) between
        | inr l ↦ past_or_same from to x (subst (Stands from to x) (ap (order_to from to) (sym there.2) ∙ parts.1 there.0 x l there.1) (stands from to x)) between
      ]
