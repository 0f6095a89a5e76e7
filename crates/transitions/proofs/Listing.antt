-- The edge between two compositions is the only one of its link.
use Rattle.std.proofs.Common.{◌≡◌, ℕ, ◌<◌, List, length, Some, inl, inr, get_or, sym, ap, subst, ◌∙◌, arith, Contains}
use Rattle.std.specs.Prelude.{◌↔◌}
use Rattle.std.proofs.lemmas.Bool.{cases_order}
use Rattle.std.proofs.lemmas.List.{get_or_read}
use Rattle.transitions.specs.declared.edge.Edge.{Edge}
use Rattle.transitions.specs.Edges.{IsBefore, AreInOrder}
use Rattle.transitions.specs.Between.{IsBetween}

-- two edges between the same compositions are not one before the other
not_before : (from to : ℕ) (x y : Edge) → IsBetween from to x → IsBetween from to y → IsBefore x y → ⊥
not_before from to x y between between' (inl lower) = absurd (omega (arith, between.origin, between'.origin))
not_before from to x y between between' (inr same) = absurd (omega (arith, same.1, between.goal, between'.goal))

-- among edges in order one is between two compositions
pub only_one : (edges : List Edge) → AreInOrder edges → (from to : ℕ) (x y : Edge) → Contains edges x → Contains edges y → IsBetween from to x → IsBetween from to y → x ≡ y
only_one edges in_order from to x y there there' between between' =
    let other : y ≡ get_or edges there'.0 x = get_or_read edges there'.0 y there'.1 (sym there'.2) x in
    elim (cases_order there.0 there'.0) [
      | inl e ↦ sym there.2 ∙ ap (λ (k : ℕ). get_or edges k x) e ∙ sym other
      | inr differ ↦ elim differ [
        | inl l ↦ absurd (not_before from to x y between between'
            (subst (λ (z : Edge). IsBefore x z) (sym other) (subst (λ (z : Edge). IsBefore z (get_or edges there'.0 x)) there.2 (in_order there.0 there'.0 x l there'.1))))
        | inr l ↦ absurd (not_before from to y x between' between
            (subst (λ (z : Edge). IsBefore y z) there.2 (subst (λ (z : Edge). IsBefore z (get_or edges there.0 x)) (sym other) (in_order there'.0 there.0 x l there.1))))
      ]
    ]

-- the edge that a search finds
pub edge_found : (edges : List Edge) → AreInOrder edges → (from to k : ℕ) (e : Edge) → k < length edges → e ≡ get_or edges k e → IsBetween from to e
    → (x : Edge) → (Some e ≡ Some x) ↔ (Contains edges x × IsBetween from to x)
edge_found edges in_order from to k e below is between x =
    let there : Contains edges e = (k, below, sym is) in (
      λ some. let same : e ≡ x = cc in subst (λ (y : Edge). Contains edges y × IsBetween from to y) same (there, between),
      λ h. ap (λ (y : Edge). Some y) (only_one edges in_order from to e x there h.0 between h.1),
    )
