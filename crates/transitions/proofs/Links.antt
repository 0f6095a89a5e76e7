-- What is known of the link of a number, and of its edges.
use Rattle.std.proofs.Common.{◌≡◌, ℕ, zero, suc, ◌+◌, ◌<◌, List, [], ◌∷◌, ◌++◌, length, Bool, Some, inl, inr, refl, sym}
use Rattle.std.proofs.Common.{ap, subst, ◌∙◌, slice_get}
use Rattle.std.specs.Prelude.{◌⊎◌}
use Rattle.std.proofs.lemmas.List.{length_push}
use Rattle.rules.specs.declared.records.LinkKind.{LinkKind}
use Rattle.rules.specs.declared.records.LinkKind.TheVariants.{Turn, Join, Split}
use Rattle.timetable.specs.Compositions.{compositions_of}
use Rattle.timetable.specs.Day.{Day}
use Rattle.transitions.specs.declared.edge.Edge.{Edge}
use Rattle.transitions.specs.Edges.{IsKindEdge, AreEdges}

-- the compositions of an edge are in the catalogue
pub from_listed : (day : Day) (kind : LinkKind) (r : Bool) (x : Edge) → IsKindEdge day kind r x → x.from < length (compositions_of day)
from_listed day (Turn a b uncouple couple exchange) r x e = e.arriving.listed
from_listed day (Join a1 a2 b) r x e = e.first.listed
from_listed day (Split a b1 b2) r x e = e.arriving.listed

pub to_listed : (day : Day) (kind : LinkKind) (r : Bool) (x : Edge) → IsKindEdge day kind r x → x.to < length (compositions_of day)
to_listed day (Turn a b uncouple couple exchange) r x e = e.departing.listed
to_listed day (Join a1 a2 b) r x e = e.departing.listed
to_listed day (Split a b1 b2) r x e = e.first.listed

-- one more list at the end
push_cases : {X : Type 0} (xs : List X) (x y : X) (k : ℕ) → slice_get (xs ++ x ∷ []) k ≡ Some y → (slice_get xs k ≡ Some y) ⊎ ((k ≡ length xs) × (x ≡ y))
push_cases [] x y zero e = inr (refl, cc)
push_cases [] x y (suc k) e = absurd cc
push_cases (z ∷ xs) x y zero e = inl e
push_cases (z ∷ xs) x y (suc k) e = elim (push_cases xs x y k e) [ inl l ↦ inl l | inr l ↦ inr (ap suc l.0, l.1) ]

-- the lists of the first links
pub record AreLists (day : Day) (count : ℕ) (lists : List (List Edge)) : Type 0 where
  pub long : length lists ≡ count
  pub each : (l : ℕ) (edges : List Edge) → slice_get lists l ≡ Some edges → AreEdges day l edges

pub one_more : (day : Day) (l : ℕ) (lists : List (List Edge)) (edges : List Edge) → AreLists day l lists → AreEdges day l edges → AreLists day (l + 1) (lists ++ edges ∷ [])
one_more day l lists edges so are = record {
  long = length_push lists edges ∙ ap (λ (n : ℕ). n + 1) so.long;
  each = λ k es at. elim (push_cases lists edges es k at) [
    | inl before ↦ so.each k es before
    | inr last ↦ subst (λ (n : ℕ). AreEdges day n es) (sym (last.0 ∙ so.long)) (subst (λ (xs : List Edge). AreEdges day l xs) last.1 are)
  ];
}
