-- Edges between two compositions.
use Rattle.std.specs.Prelude.{ℕ, ◌≡◌, ◌↔◌, List, Contains}
use Rattle.std.specs.Ordering.{nat_cmp, ordering_then}
use Rattle.std.specs.declared.cmp.Ordering.{Ordering}
use Rattle.transitions.specs.declared.edge.Edge.{Edge}
use Rattle.transitions.specs.Edges.{AreInOrder}

-- the edge goes from the one composition to the other
pub record IsBetween (from to : ℕ) (edge : Edge) : Type 0 where
  pub origin : edge.from ≡ from
  pub goal : edge.to ≡ to

-- these and no other edges are allowed by a rule
pub record AreEdgesBy (Allows : Edge → Type 0) (edges : List Edge) : Type 0 where
  pub in_order : AreInOrder edges
  pub exact : (edge : Edge) → Contains edges edge ↔ Allows edge

-- how the edge stands to two compositions in the order of edges: before them, between them or after them
abbrev pub order_to : ℕ → ℕ → Edge → Ordering
order_to from to edge = ordering_then (nat_cmp edge.from from) (nat_cmp edge.to to)
