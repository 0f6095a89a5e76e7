-- Cheapest paths over stages: each stage has compositions at a priced cost, and edges to the next stage at a price.
use Rattle.std.specs.Prelude.{ℕ, suc, ◌≡◌, ◌<◌, ◌⊎◌, List, [], ◌∷◌, IsTrue, get_or, set, replicate, fold}
use Rattle.std.specs.Prelude.{Option, Some, None, if◌then◌else◌, int_lt, ℤ, pos, ◌+ℤ◌, ◌<ℤ◌, ◌≤ℤ◌, Contains}
use Rattle.compositions.specs.Catalogue.{is_lower}
use Rattle.transitions.specs.declared.edge.Edge.{Edge}
use Rattle.transitions.specs.Edges.{AreInOrder}
use Rattle.price_bound.specs.declared.cells.Cell.{Cell}

-- The compositions of one trip of a chain: what each costs under prices, and none where it may not be had. The edges to
-- the next trip of the chain: what each is priced, and none where it may not be taken.
pub record Stage : Type 0 where
  pub priced_cost : ℕ → Option ℤ
  pub edges : List Edge
  pub price : Edge → Option ℤ

-- ---- what paths are

-- an edge leads from one composition to the other at a price
pub record IsStepAt (stage : Stage) (from to : ℕ) (price : ℤ) : Type 0 where
  pub edge : Edge
  pub there : Contains stage.edges edge
  pub origin : edge.from ≡ from
  pub goal : edge.to ≡ to
  pub priced : stage.price edge ≡ Some price

-- A path through stages has a composition at each, from each an edge to the next, and the value that these come to.
abbrev pub IsPath : List Stage → List ℕ → ℤ → Type 0
IsPath [] path value = ⊥
IsPath (stage ∷ stages) [] value = ⊥
IsPath (stage ∷ []) (comp ∷ []) value = stage.priced_cost comp ≡ Some value
IsPath (stage ∷ []) (comp ∷ next ∷ path) value = ⊥
IsPath (stage ∷ after ∷ stages) (comp ∷ []) value = ⊥
IsPath (stage ∷ after ∷ stages) (comp ∷ next ∷ path) value =
    (here step rest : ℤ) × (stage.priced_cost comp ≡ Some here) × IsStepAt stage comp next step
    × IsPath (after ∷ stages) (next ∷ path) rest × (value ≡ here +ℤ (step +ℤ rest))

-- a list at a value comes before another: the value is lower, or it is the same and the list comes first
abbrev pub ComesFirst : ℤ → List ℕ → ℤ → List ℕ → Type 0
ComesFirst value path other others = (value <ℤ other) ⊎ ((value ≡ other) × IsTrue (is_lower path others))

-- it comes before another, or the other is itself, at no lower value
abbrev pub IsNoLaterPath : ℤ → List ℕ → ℤ → List ℕ → Type 0
IsNoLaterPath value path other others = ((others ≡ path) × (value ≤ℤ other)) ⊎ ComesFirst value path other others

-- the first path of least value
pub record IsFirstPath (stages : List Stage) (path : List ℕ) (value : ℤ) : Type 0 where
  pub is : IsPath stages path value
  pub first : (others : List ℕ) (other : ℤ) → IsPath stages others other → IsNoLaterPath value path other others

-- ---- from the back: rows of cells, one for each composition

-- the first of two cells, unless the other is of lower value
abbrev pub lower_cell : Option Cell → Option Cell → Option Cell
lower_cell None other = other
lower_cell (Some cell) None = Some cell
lower_cell (Some cell) (Some other) = if int_lt other.value cell.value then Some other else Some cell

-- the cell of an edge to a composition: what is ahead there, at the edge's price
abbrev pub offer_by : ℕ → Option ℤ → Option Cell → Option Cell
offer_by to None cell = None
offer_by to (Some price) None = None
offer_by to (Some price) (Some cell) = Some (record { value = price +ℤ cell.value; next = to })

-- the cell that an edge offers to the composition that it leads from
abbrev pub offer : Stage → List (Option Cell) → Edge → Option Cell
offer stage ahead edge = offer_by edge.to (stage.price edge) (get_or ahead edge.to None)

abbrev pub offered : Stage → List (Option Cell) → List (Option Cell) → Edge → List (Option Cell)
offered stage ahead row edge = set row edge.from (lower_cell (get_or row edge.from None) (offer stage ahead edge))

-- a cell with the priced cost of its composition
abbrev pub with_priced_cost : Option ℤ → Option Cell → Option Cell
with_priced_cost None cell = None
with_priced_cost (Some priced_cost) None = None
with_priced_cost (Some priced_cost) (Some cell) = Some (record { value = priced_cost +ℤ cell.value; next = cell.next })

-- the cells of a row, from one composition on, with their priced costs
abbrev pub with_priced_costs : Stage → ℕ → List (Option Cell) → List (Option Cell)
with_priced_costs stage comp [] = []
with_priced_costs stage comp (cell ∷ row) = with_priced_cost (stage.priced_cost comp) cell ∷ with_priced_costs stage
    (suc comp) row

-- ---- the rows of all stages

-- the row of the last stage; and that of a stage before others, whose first row is ahead
abbrev pub last_row : ℕ → Stage → List (Option Cell)
last_row n stage = with_priced_costs stage 0 (replicate n (Some (record { value = pos 0; next = 0 })))

abbrev pub row_before : ℕ → Stage → List (Option Cell) → List (Option Cell)
row_before n stage ahead = with_priced_costs stage 0 (fold (offered stage ahead) (replicate n None) stage.edges)

-- the row of a stage before others, whose rows are these
abbrev pub row_by : ℕ → Stage → List (List (Option Cell)) → List (Option Cell)
row_by n stage [] = last_row n stage
row_by n stage (ahead ∷ rows) = row_before n stage ahead

-- for each stage its row, over so many compositions
abbrev pub rows_of : ℕ → List Stage → List (List (Option Cell))
rows_of n [] = []
rows_of n (stage ∷ stages) = row_by n stage (rows_of n stages) ∷ rows_of n stages

-- ---- from the front: along the rows, from cell to cell

abbrev pub next_of : Option Cell → ℕ
next_of None = 0
next_of (Some cell) = cell.next

-- the path from a composition of the first row on
abbrev pub path_from : List (List (Option Cell)) → ℕ → List ℕ
path_from [] comp = []
path_from (row ∷ rows) comp = comp ∷ path_from rows (next_of (get_or row comp None))

-- what a cell offers to a path's begin: its value, at its own composition
abbrev pub entered : ℕ → Option Cell → Option Cell
entered comp None = None
entered comp (Some cell) = Some (record { value = cell.value; next = comp })

-- the first of least value, among the cells of a row from one composition on
abbrev pub least_from : ℕ → Option Cell → List (Option Cell) → Option Cell
least_from comp best [] = best
least_from comp best (cell ∷ row) = least_from (suc comp) (lower_cell best (entered comp cell)) row

-- the value of the first path of least value, with its first composition
abbrev pub begin_of : List (List (Option Cell)) → Option Cell
begin_of [] = None
begin_of (row ∷ rows) = least_from 0 None row

-- a stage is over so many compositions: its edges are in order, and the compositions of its edges, and those that have
-- a priced cost, are below
pub record IsOver (n : ℕ) (stage : Stage) : Type 0 where
  pub in_order : AreInOrder stage.edges
  pub edges : (edge : Edge) → Contains stage.edges edge → (edge.from < n) × (edge.to < n)
  pub priced_costs : (comp : ℕ) (value : ℤ) → stage.priced_cost comp ≡ Some value → comp < n
