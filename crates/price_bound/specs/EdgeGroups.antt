-- The edges of a link from one composition, which stand together, in order of those that they lead to.
use Rattle.std.specs.Prelude.{ℕ, ◌≡◌, ◌<◌, ◌≤◌, ◌-◌, ◌⊎◌, List, length, get_or, slice_index_or, Option, None}
use Rattle.transitions.specs.declared.edge.Edge.{Edge}
use Rattle.price_bound.specs.declared.cells.Cell.{Cell}

-- the edge leads from a lower composition, or from this one to a lower one than another
abbrev pub IsBelow : Edge → ℕ → ℕ → Type 0
IsBelow edge comp to = (edge.from < comp) ⊎ ((edge.from ≡ comp) × (edge.to < to))

-- it leads from a higher one, or from this one to no lower one
abbrev pub IsNotBelow : Edge → ℕ → ℕ → Type 0
IsNotBelow edge comp to = (comp < edge.from) ⊎ ((edge.from ≡ comp) × (to ≤ edge.to))

-- the place of the edges from a composition to another and higher ones: those before are below, and those from it on
-- are not
pub record IsGroupPlace (edges : List Edge) (comp to place : ℕ) : Type 0 where
  pub within : place ≤ length edges
  pub before : (k : ℕ) (d : Edge) → k < place → IsBelow (slice_index_or edges k d) comp to
  pub after : (k : ℕ) (d : Edge) → place ≤ k → k < length edges → IsNotBelow (slice_index_or edges k d) comp to

-- so it seems by the edge at a place and the one before it
pub record IsAtGroup (edges : List Edge) (comp to place : ℕ) : Type 0 where
  pub within : place < length edges
  pub here : (d : Edge) → IsNotBelow (slice_index_or edges place d) comp to
  pub before : (place ≡ 0) ⊎ ((d : Edge) → IsBelow (slice_index_or edges (place - 1) d) comp to)

-- the edges before a place lead from lower compositions, or to one that has no cell; those from it on lead from no
-- lower one
pub record IsOfferPlace (edges : List Edge) (ahead : List (Option Cell)) (comp place : ℕ) : Type 0 where
  pub within : place ≤ length edges
  pub before : (k : ℕ) (d : Edge) → k < place
      → ((slice_index_or edges k d).from < comp) ⊎ (get_or ahead (slice_index_or edges k d).to None ≡ None)
  pub after : (k : ℕ) (d : Edge) → place ≤ k → k < length edges → comp ≤ (slice_index_or edges k d).from

-- the edge at a place is there and leads from the composition to one below an end
pub record IsInGroup (edges : List Edge) (comp end place : ℕ) : Type 0 where
  pub within : place < length edges
  pub here : (d : Edge) → (slice_index_or edges place d).from ≡ comp
  pub under : (d : Edge) → (slice_index_or edges place d).to < end
