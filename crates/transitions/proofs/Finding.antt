-- The edge of a link between two compositions.
use Rattle.std.proofs.Common.{◌≡◌, ℕ, List, Option, Some, None, refl, sym, ap, subst, ◌∙◌, slice_get, Contains}
use Rattle.std.specs.Prelude.{◌↔◌, option_map}
use Rattle.transitions.specs.declared.edge.Edge.{Edge}
use Rattle.transitions.specs.declared.edge.Shunt.{Shunt}
use Rattle.transitions.specs.Edges.{IsFound, IsAllowed}
use Rattle.transitions.specs.Between.{IsBetween}

pub found_in : (graphs : List (List Edge)) (l from to : ℕ) (edges : List Edge) (o : Option Edge) → slice_get graphs l ≡ Some edges
    → ((e : Edge) → (o ≡ Some e) ↔ (Contains edges e × IsBetween from to e)) → (e : Edge) → (o ≡ Some e) ↔ IsFound graphs l from to e
found_in graphs l from to edges o at is e = (
  λ some. let h = (is e).0 some in record { edges = edges; at = at; there = h.0; origin = h.1.origin; goal = h.1.goal },
  λ found.
      let some : Some edges ≡ Some found.edges = sym at ∙ found.at in
      let same : edges ≡ found.edges = cc in
      (is e).1 (subst (λ (es : List Edge). Contains es e) (sym same) found.there, record { origin = found.origin; goal = found.goal }),
)

pub allowed_in : (graphs : List (List Edge)) (l from to : ℕ) (o : Option Edge) → ((e : Edge) → (o ≡ Some e) ↔ IsFound graphs l from to e)
    → (shunt : Shunt) → (option_map (λ e. e.shunt) o ≡ Some shunt) ↔ IsAllowed graphs l from to shunt
allowed_in graphs l from to None is shunt = (λ e. absurd cc, λ h. let none : None ≡ Some h.edge = (is h.edge).1 h.found in absurd cc)
allowed_in graphs l from to (Some edge) is shunt = (
  λ some. let same : edge.shunt ≡ shunt = cc in record { edge = edge; found = (is edge).0 refl; is = same },
  λ h. let some : Some edge ≡ Some h.edge = (is h.edge).1 h.found in let same : edge ≡ h.edge = cc in ap (λ (e : Edge). Some e.shunt) same ∙ ap (λ (s : Shunt). Some s) h.is,
)
