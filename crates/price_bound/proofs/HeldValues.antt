-- The least of values that stand for cells stands for the cell that edges offer.
use Rattle.std.proofs.Common.{◌≡◌, ℕ, ◌⊎◌, List, Option, Some, None, refl, sym, ◌∙◌, subst}
use Rattle.std.proofs.Common.{arith, ℤ, ◌+ℤ◌, ◌-ℤ◌, ◌≤ℤ◌, ◌<ℤ◌, inl, inr}
use Rattle.std.proofs.lemmas.Int.{ints}
use Rattle.transitions.specs.declared.edge.Edge.{Edge}
use Rattle.price_bound.specs.declared.cells.Cell.{Cell}
use Rattle.price_bound.specs.Paths.{Stage, offer}
use Rattle.price_bound.proofs.Offers.{IsLeastOffer, IsNoLater, IsOffered}
use Rattle.price_bound.specs.HeldValues.{HoldsCell, IsLeastOf}
use Rattle.price_bound.specs.LeastOverTrees.{IsLeastOver, lower}
use Rattle.price_bound.proofs.LeastOverTrees.{LowerCase, first, second, lower_case}

level : (x y : ℤ) → x ≡ y → x ≤ℤ y
level x y e = omega (arith, ints, e)

less : (x y z : ℤ) → x ≤ℤ y → y ≤ℤ z → x ≤ℤ z
less x y z e f = omega (arith, ints, e, f)

-- ---- the least of some values

pub least_of_this : (limit value : ℤ) → IsLeastOf (λ x. x ≡ value) limit value
least_of_this limit value = record { reached = inr refl; below = λ x same. level value x (sym same) }

pub least_of_those : (Over : ℕ → Type 0) (value : ℕ → ℤ) (limit least : ℤ) → IsLeastOver Over value limit least
    → IsLeastOf (λ x. (a : ℕ) × Over a × (value a ≡ x)) limit least
least_of_those Over value limit least p = record {
  reached = p.reached;
  below = λ x there. subst (λ (y : ℤ). least ≤ℤ y) there.2 (p.below there.0 there.1);
}

pub least_either : (A B : ℤ → Type 0) (limit a b : ℤ) → IsLeastOf A limit a → IsLeastOf B limit b → IsLeastOf (λ x. A x ⊎ B x) limit (lower a b)
least_either A B limit a b p q = on (lower_case a b)
  where
    of : (least : ℤ) → least ≤ℤ a → least ≤ℤ b → ((limit ≤ℤ least) ⊎ (A least ⊎ B least)) → IsLeastOf (λ x. A x ⊎ B x) limit least
    of least under_a under_b reached = record {
      reached = reached;
      below = λ x either. elim either [
        | inl is ↦ less least a x under_a (p.below x is)
        | inr is ↦ less least b x under_b (q.below x is)
      ];
    }

    on : LowerCase a b → IsLeastOf (λ x. A x ⊎ B x) limit (lower a b)
    on (first same under) = subst (IsLeastOf (λ x. A x ⊎ B x) limit) (sym same) (of a (level a a refl) under (elim p.reached [
      | inl high ↦ inl high
      | inr is ↦ inr (inl is)
    ]))
    on (second same under) = subst (IsLeastOf (λ x. A x ⊎ B x) limit) (sym same) (of b under (level b b refl) (elim q.reached [
      | inl high ↦ inl high
      | inr is ↦ inr (inr is)
    ]))

-- the same values by so much more, and a limit that is no higher
pub least_by : (A B : ℤ → Type 0) (limit other least by new : ℤ) → other ≤ℤ (limit +ℤ by) → new ≡ (least +ℤ by) → ((x : ℤ) → A x → B (x +ℤ by)) → ((x : ℤ) → B x → A (x -ℤ by))
    → IsLeastOf A limit least → IsLeastOf B other new
least_by A B limit other least by new under is to back p = subst (IsLeastOf B other) (sym is) (record {
  reached = elim p.reached [ inl high ↦ inl (more limit least other under high) | inr there ↦ inr (to least there) ];
  below = λ x there. back_less x (p.below (x -ℤ by) (back x there));
})
  where
    more : (k a o : ℤ) → o ≤ℤ (k +ℤ by) → k ≤ℤ a → o ≤ℤ (a +ℤ by)
    more k a o e f = omega (arith, ints, e, f)

    back_less : (x : ℤ) → least ≤ℤ (x -ℤ by) → (least +ℤ by) ≤ℤ x
    back_less x e = omega (arith, ints, e)

-- ---- the value of the cell that edges offer

module _ (stage : Stage) (ahead : List (Option Cell)) (Seen : Edge → Type 0) (comp : ℕ) (limit least : ℤ) where
  -- a value is the least that edges from a composition offer, or is at the limit or above it
  pub record IsLeastOffered : Type 0 where
    pub reached : (limit ≤ℤ least) ⊎ ((edge : Edge) × (cell : Cell) × Seen edge × (edge.from ≡ comp) × (offer stage ahead edge ≡ Some cell) × (cell.value ≡ least))
    pub below : (edge : Edge) (cell : Cell) → Seen edge → edge.from ≡ comp → offer stage ahead edge ≡ Some cell → least ≤ℤ cell.value
    pub few : (edge : Edge) (cell : Cell) → Seen edge → edge.from ≡ comp → offer stage ahead edge ≡ Some cell → cell.value <ℤ limit

  no_higher : (x y : Cell) → IsNoLater x y → x.value ≤ℤ y.value
  no_higher x y (inl lower_one) = omega (arith, ints, lower_one)
  no_higher x y (inr same) = level x.value y.value same.0

  pub held_offer : (cell : Option Cell) → IsOffered stage ahead Seen comp cell → IsLeastOffered → HoldsCell limit least cell
  held_offer None is p = elim p.reached [
    | inl high ↦ high
    | inr there ↦ absurd (let none : None ≡ Some there.1 = sym (is.none refl there.0 there.2 there.3) ∙ there.4 in cc)
  ]
  held_offer (Some it) is p =
      let one : IsLeastOffer stage ahead Seen comp it = is.some it refl in
      let under : least ≤ℤ it.value = p.below one.edge it one.seen one.from one.offers in
      elim p.reached [
        | inl high ↦ absurd (between limit least it.value high under (p.few one.edge it one.seen one.from one.offers))
        | inr there ↦ both least it.value under
            (subst (λ (x : ℤ). it.value ≤ℤ x) there.5 (no_higher it there.1 (one.least there.0 there.1 there.2 there.3 there.4)))
      ]
    where
      between : (x y z : ℤ) → x ≤ℤ y → y ≤ℤ z → z <ℤ x → ⊥
      between x y z e f h = omega (arith, ints, e, f, h)

      both : (x y : ℤ) → x ≤ℤ y → y ≤ℤ x → x ≡ y
      both x y e f = omega (arith, ints, e, f)
