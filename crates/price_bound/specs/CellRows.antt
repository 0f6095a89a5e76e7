-- Rows of cells while they are made, and picks along a chain.
use Rattle.std.specs.Prelude.{ℕ, ◌≡◌, ◌<◌, List, [], ◌∷◌, length, get_or, set, fold, replicate, map, Option, None, Some}
use Rattle.std.specs.Prelude.{slice_get, if◌then◌else◌, int_lt, ℤ, pos, ◌<ℤ◌, ◌≤◌, ◌⊎◌, All}
use Rattle.timetable.specs.Compositions.{compositions_of}
use Rattle.rules.specs.declared.records.Link.{Link}
use Rattle.timetable.specs.Chains.{leads_from, leads_to}
use Rattle.timetable.specs.Day.{Day}
use Rattle.timetable.specs.Links.{outgoing}
use Rattle.transitions.specs.Edges.{IsAdmittedComp}
use Rattle.price_bound.specs.declared.cells.Cell.{Cell}
use Rattle.price_bound.specs.declared.row_values.CompRange.{CompRange}
use Rattle.price_bound.specs.CellSizes.{AreSmallCells, most_ahead}
use Rattle.price_bound.specs.ChainStages.{Priced, edges_of, price_of, stage_of, stages_of}
use Rattle.price_bound.specs.HeldValues.{no_value}
use Rattle.price_bound.specs.Paths.{last_row, lower_cell, offer_by, row_before, rows_of}

-- a row after a cell is offered to a composition
abbrev pub lower_at : ℕ → Option Cell → List (Option Cell) → List (Option Cell)
lower_at comp cell row = set row comp (lower_cell (get_or row comp None) cell)

-- picks with the compositions of a path on the trips of a chain
abbrev pub put_along : List ℕ → List ℕ → List ℕ → List ℕ
put_along [] path picks = picks
put_along (t ∷ ts) [] picks = picks
put_along (t ∷ ts) (comp ∷ path) picks = put_along ts path (set picks t comp)

-- a row after the edges of a link, if there is one, offered their cells
abbrev pub edges_offered : Priced → Option ℕ → List (Option Cell) → List (Option Cell) → List (Option Cell)
edges_offered priced link ahead row =
    fold (λ row edge. lower_at edge.from (offer_by edge.to (price_of priced link edge) (get_or ahead edge.to None)) row)
    row (edges_of priced link)

-- ---- rows that keep the values of cells alone

-- a cell that leads nowhere, by its value; and by a number that stands for a value, or for none
abbrev pub bare : Option Cell → Option Cell
bare None = None
bare (Some cell) = Some (record { value = cell.value; next = 0 })

abbrev pub all_bare : List (Option Cell) → List (Option Cell)
all_bare row = map bare row

abbrev pub cell_in : ℤ → Option Cell
cell_in value = if int_lt value (pos 9050000000000000000) then Some (record { value = value; next = 0 }) else None

-- a cell, if its value is one
abbrev pub held_cell : Cell → Option Cell
held_cell cell = if int_lt cell.value (pos 9050000000000000000) then Some cell else None

-- a number stands for a value, which is below the limit, or is the one that stands for none
abbrev pub IsHeld : ℤ → Type 0
IsHeld value = (value <ℤ pos 9050000000000000000) ⊎ (value ≡ pos 9100000000000000000)

abbrev pub AreHeld : List ℤ → Type 0
AreHeld values = All IsHeld values

-- no composition outside of a range has a value
pub record AreWithin (range : CompRange) (values : List ℤ) : Type 0 where
  pub begin : range.begin ≤ length values
  pub most : range.end ≤ length values
  pub before : (k : ℕ) → k < range.begin → k < length values → get_or values k (pos 0) ≡ no_value
  pub after : (k : ℕ) → range.end ≤ k → k < length values → get_or values k (pos 0) ≡ no_value

-- what a composition has after the edges of a link offered their cells, where there was none before
abbrev pub offered_from : Priced → Option ℕ → List (Option Cell) → ℕ → Option Cell
offered_from priced link ahead comp =
    get_or (edges_offered priced link ahead (replicate (length (compositions_of priced.day)) None)) comp None

-- rows of so many compositions
pub record HaveRoom (rows comps : ℕ) (table : List (List (Option Cell))) : Type 0 where
  pub height : length table ≡ rows
  pub widths : (row : ℕ) → row < rows → length (get_or table row []) ≡ comps

-- the cells of the first rows, of which there are so many, are small
abbrev pub AreSmallBelow : ℕ → List (List (Option Cell)) → Type 0
AreSmallBelow rows table = (place : ℕ) → place < rows → AreSmallCells most_ahead (get_or table place [])

-- the cells of a row are those of compositions that may run on a trip
abbrev pub MayRunOn : Day → ℕ → List (Option Cell) → Type 0
MayRunOn day t row = (comp : ℕ) (cell : Cell) → get_or row comp None ≡ Some cell → IsAdmittedComp day t comp

-- so the cells ahead are on the trip that the link leads on to, which leads on from a trip
abbrev pub LeadsTo : Day → ℕ → List (Option Cell) → Type 0
LeadsTo day t ahead = (l : ℕ) (link : Link) → outgoing day t ≡ Some l → slice_get day.links l ≡ Some link
    → (leads_from link.kind ≡ t) × MayRunOn day (leads_to link.kind) ahead

-- ---- of what is priced

abbrev pub comps_of : Priced → ℕ
comps_of priced = length (compositions_of priced.day)

abbrev pub HaveRoomFor : Priced → List (List (Option Cell)) → Type 0
HaveRoomFor priced table = HaveRoom (length priced.day.trips) (comps_of priced) table

-- the rows of a chain
abbrev pub chain_rows : Priced → List ℕ → List (List (Option Cell))
chain_rows priced chain = rows_of (comps_of priced) (stages_of priced chain)

-- the row of a trip, where it is the last of its chain; and where the row of the next trip is ahead
abbrev pub last_row_on : Priced → ℕ → List (Option Cell)
last_row_on priced t = last_row (comps_of priced) (stage_of priced t)

abbrev pub row_on : Priced → ℕ → List (Option Cell) → List (Option Cell)
row_on priced t ahead = row_before (comps_of priced) (stage_of priced t) ahead
