-- Rows that are made by the members of a set of compositions, word by word.
use Rattle.std.specs.Prelude.{ℕ, ◌≡◌, ◌<◌, ◌≤◌, ◌+◌, ◌/◌, ◌%◌, ◌^◌, ◌==◌, ◌⊎◌, List, length, get_or, Bool, false}
use Rattle.std.specs.Prelude.{Option, None, Some, IfSome, is_none, slice_get, slice_index, ℤ, pos}
use Rattle.timetable.specs.Links.{outgoing}
use Rattle.transitions.specs.declared.edge.Edge.{Edge}
use Rattle.transitions.specs.Edges.{AreGraphs}
use Rattle.branch_tree.specs.declared.sets.TheConstants.{WORD_BITS}
use Rattle.branch_tree.specs.Regions.{has}
use Rattle.price_bound.specs.declared.cells.Cell.{Cell}
use Rattle.price_bound.specs.declared.passes.PassedValues.{PassedValues}
use Rattle.price_bound.specs.declared.priced_costs.PricedCosts.{PricedCosts}
use Rattle.price_bound.specs.declared.row_values.CompRange.{CompRange}
use Rattle.price_bound.specs.CellRows.{IsHeld, bare, cell_in, comps_of, offered_from}
use Rattle.price_bound.specs.CellSizes.{AreSmallCells, IsSmall, most_ahead, most_edge_price, most_offered, most_step}
use Rattle.price_bound.specs.ChainStages.{Priced, priced_cost_of}
use Rattle.price_bound.specs.HeldValues.{no_value}
use Rattle.price_bound.specs.PassValues.{IsPassedSmall, value_at}
use Rattle.price_bound.specs.Paths.{with_priced_cost}
use Rattle.price_bound.specs.Pricing.{priced_by}
use Rattle.price_bound.specs.TripAndLinkPrices.{IsForTrip}

-- compositions that are no members have no cell
abbrev pub HaveNone : (ℕ → Bool) → (ℕ → Option Cell) → Type 0
HaveNone member cell = (comp : ℕ) → member comp ≡ false → cell comp ≡ None

-- the bits of a word tell which of so many compositions, from one on, are members
abbrev pub TellsMembers : (ℕ → Bool) → ℕ → ℕ → Type 0
TellsMembers member begin word =
    (bit : ℕ) → bit < WORD_BITS → member (begin + bit) ≡ (word / 2 ^ bit % 2 == 1)

-- of the first compositions, of which there are so many, those outside of a range are no members
abbrev pub AreMembersIn : CompRange → (ℕ → Bool) → ℕ → Type 0
AreMembersIn range member comps =
    (comp : ℕ) → comp < comps → (comp < range.begin) ⊎ (range.end ≤ comp) → member comp ≡ false

-- the bits of words tell of each composition of so many that it is a member
abbrev pub TellsAll : List ℕ → ℕ → Type 0
TellsAll words comps =
    (comp : ℕ) → comp < comps → slice_index words (comp / WORD_BITS) / 2 ^ (comp % WORD_BITS) % 2 ≡ 1

-- the values of the first compositions stand for these cells, but for where they lead, and each is small in some sense;
-- those of the others stand for none
pub record AreFilled (n : ℕ) (cell : ℕ → Option Cell) (IsFew : Option Cell → Type 0) (comp : ℕ) (values : List ℤ)
    : Type 0 where
  pub long : length values ≡ n
  pub cells : (k : ℕ) → k < comp → k < n → cell_in (value_at values k) ≡ bare (cell k)
  pub few : (k : ℕ) → k < comp → k < n → IsFew (cell_in (value_at values k))
  pub held : (k : ℕ) → k < n → IsHeld (value_at values k)
  pub rest : (k : ℕ) → comp ≤ k → k < n → value_at values k ≡ no_value

-- a row has these cells, but for where they lead, and each is small in some sense
pub record HasCells (n : ℕ) (cell : ℕ → Option Cell) (IsFew : Option Cell → Type 0) (row : List (Option Cell))
    : Type 0 where
  pub long : length row ≡ n
  pub cells : (k : ℕ) → k < n → get_or row k None ≡ bare (cell k)
  pub few : (k : ℕ) → k < n → IsFew (get_or row k None)

-- ---- of a trip

abbrev pub priced_on : PricedCosts → Priced
priced_on priced_costs = priced_by priced_costs.pricing.now

-- whether the region has a composition for the trip
abbrev pub is_had : PricedCosts → ℕ → Bool
is_had priced_costs comp = has (priced_on priced_costs).region priced_costs.trip comp

-- the cell of a composition where the trip is the last of its chain, and by the value that the passes found for it
abbrev pub end_cell : PricedCosts → ℕ → Option Cell
end_cell priced_costs comp =
    with_priced_cost (priced_cost_of (priced_on priced_costs) priced_costs.trip comp)
    (Some (record { value = pos 0; next = 0 }))

abbrev pub passed_cell : PassedValues → ℕ → Option Cell
passed_cell passed comp =
    with_priced_cost (priced_cost_of (priced_on passed.priced_costs.now) passed.priced_costs.now.trip comp)
    (cell_in (value_at passed.values.now comp))

-- and by the edges of a link that leads on from the trip
abbrev pub edge_cell : PricedCosts → ℕ → List (Option Cell) → ℕ → Option Cell
edge_cell priced_costs link ahead comp =
    with_priced_cost (priced_cost_of (priced_on priced_costs) priced_costs.trip comp)
    (offered_from (priced_on priced_costs) (Some link) ahead comp)

-- a cell is no more than a step from none, and from those ahead
abbrev pub IsOneStepAt : Option Cell → Type 0
IsOneStepAt cell = IfSome cell (λ it. IsSmall most_step it.value)

abbrev pub IsStepOn : List (Option Cell) → Option Cell → Type 0
IsStepOn ahead cell =
    (bound : ℕ) → AreSmallCells bound ahead → IfSome cell (λ it. IsSmall (bound + most_step) it.value)

-- the edges are those of the link that leads on from the trip
pub record IsForEdges (OfLink : Type 0) (priced : Priced) (link : ℕ) (edges : List Edge) (priced_costs : PricedCosts)
    (ahead : List (Option Cell)) : Type 0 where
  pub of_link : OfLink
  pub of_trip : IsForTrip priced_costs
  pub priced_is : priced_on priced_costs ≡ priced
  pub leads : outgoing priced.day priced_costs.trip ≡ Some link
  pub graphs : AreGraphs priced.day priced.graphs
  pub edges_are : slice_get priced.graphs link ≡ Some edges
  pub long : length ahead ≡ comps_of priced
  pub small : AreSmallCells most_ahead ahead

-- there is a value for each composition of a trip from which a link leads on, and they are small
pub record IsForPassed (passed : PassedValues) : Type 0 where
  pub of_trip : IsForTrip passed.priced_costs.now
  pub leads : is_none (outgoing (priced_on passed.priced_costs.now).day passed.priced_costs.now.trip) ≡ false
  pub long : length passed.values.now ≡ comps_of (priced_on passed.priced_costs.now)
  pub ahead : AreSmallCells most_ahead passed.ahead.now
  pub small : (comp : ℕ) → comp < comps_of (priced_on passed.priced_costs.now)
      → IsPassedSmall (priced_on passed.priced_costs.now) passed.priced_costs.now.trip comp most_offered
      (value_at passed.values.now comp)
  pub few : (comp bound : ℕ) → comp < comps_of (priced_on passed.priced_costs.now)
      → AreSmallCells bound passed.ahead.now
      → IsPassedSmall (priced_on passed.priced_costs.now) passed.priced_costs.now.trip comp (bound + most_edge_price)
      (value_at passed.values.now comp)
