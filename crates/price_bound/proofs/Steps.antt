-- Whether a link leads along its chain by an edge, by looking for the edge.
use Rattle.std.proofs.Common.{◌≡◌, ◌↔◌, ◌<◌, ℕ, zero, suc, List, [], ◌∷◌, length, arith, Option, Some, None, IsTrue}
use Rattle.std.proofs.Common.{is_some, slice_get, refl, sym, subst, ◌∙◌}
use Rattle.rules.specs.declared.records.Link.{Link}
use Rattle.timetable.specs.Chains.{leads_from, leads_to}
use Rattle.timetable.specs.Day.{Day}
use Rattle.transitions.specs.declared.edge.Edge.{Edge}
use Rattle.transitions.specs.Edges.{AreGraphs, IsFound}
use Rattle.transitions.proofs.Following.{edges_found}
use Rattle.price_bound.specs.FollowingPicks.{IsStep, pick_of}

-- the edge of a step is found between its two picks
pub found_by : (day : Day) (graphs : List (List Edge)) (picks : List ℕ) (l from to : ℕ) (link : Link) → AreGraphs day graphs
    → from ≡ pick_of picks (leads_from link.kind) → to ≡ pick_of picks (leads_to link.kind)
    → (step : IsStep day picks l link) → IsFound graphs l from to step.edge
found_by day graphs picks l from to link are first last step =
    subst (λ a. IsFound graphs l a to step.edge) (step.from ∙ sym first)
    (subst (λ b. IsFound graphs l step.edge.from b step.edge) (step.to ∙ sym last) (edges_found day graphs are l step.edge step.allowed))

pub step_found : (day : Day) (graphs : List (List Edge)) (picks : List ℕ) (l from to : ℕ) (link : Link) (o : Option Edge) → AreGraphs day graphs
    → from ≡ pick_of picks (leads_from link.kind) → to ≡ pick_of picks (leads_to link.kind)
    → ((edge : Edge) → (o ≡ Some edge) ↔ IsFound graphs l from to edge) → IsTrue (is_some o) ↔ IsStep day picks l link
step_found day graphs picks l from to link None are first last is = (
  λ some. absurd cc,
  λ step. let none : None ≡ Some step.edge = (is step.edge).1 (found_by day graphs picks l from to link are first last step) in absurd cc,
)
step_found day graphs picks l from to link (Some edge) are first last is = (
  λ some.
      let found : IsFound graphs l from to edge = (is edge).0 refl in
      record { edge = edge; allowed = ((are.each l found.edges found.at).exact edge).0 found.there; from = found.origin ∙ first; to = found.goal ∙ last },
  λ step. refl,
)

-- below the length of a list there is an entry
pub entry_below : {X : Type 0} (xs : List X) (i : ℕ) → i < length xs → (x : X) × (slice_get xs i ≡ Some x)
entry_below (x ∷ xs) zero below = (x, refl)
entry_below (x ∷ xs) (suc i) below = let rest = entry_below xs i (omega (arith, below)) in (rest.0, rest.1)
entry_below [] i below = absurd (omega (arith, below))
