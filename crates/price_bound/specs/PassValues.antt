-- Turns without exchange, whose edges are priced all together: by passes over the compositions.
use Rattle.std.specs.Prelude.{ℕ, suc, ◌≡◌, ◌<◌, ◌≤◌, List, length, get_or, map, Bool, false, Option, Some, IfSome, None}
use Rattle.std.specs.Prelude.{slice_get, ℤ, pos, ◌+ℤ◌}
use Rattle.rules.specs.declared.records.End.{End}
use Rattle.rules.specs.declared.records.Link.{Link}
use Rattle.rules.specs.declared.records.LinkKind.TheVariants.{Turn}
use Rattle.timetable.specs.Compositions.{composition_at}
use Rattle.transitions.specs.Edges.{AreGraphs, IsAdmittedComp}
use Rattle.branch_tree.specs.Meanings.{weighted}
use Rattle.price_bound.specs.declared.cells.Cell.{Cell}
use Rattle.price_bound.specs.declared.passes.Passes.{Passes}
use Rattle.price_bound.specs.CellRows.{MayRunOn, cell_in, comps_of, offered_from}
use Rattle.price_bound.specs.CellSizes.{AreSmallCells, IsSmall, most_ahead, most_cost, most_units_price}
use Rattle.price_bound.specs.ChainStages.{Priced, priced_cost_of}
use Rattle.price_bound.specs.CompositionTrees.{AreRests, AreTurnedPlaces, IsMadeOf, place_at}
use Rattle.price_bound.specs.HeldValues.{HoldsCell, HoldsRow, least_none, no_value}
use Rattle.price_bound.specs.LeastOverTrees.{IsLeastOver, IsOver}
use Rattle.price_bound.specs.Pricing.{priced_by}
use Rattle.price_bound.specs.YardPrices.{giving, taking}

-- a link is a turn without exchange, of these trips and at these ends
pub record IsPlainTurn (priced : Priced) (l : ℕ) (r : Bool) (a b : ℕ) (u c : End) : Type 0 where
  pub graphs : AreGraphs priced.day priced.graphs
  pub link : Link
  pub at : slice_get priced.day.links l ≡ Some link
  pub kind : link.kind ≡ Turn a b u c false
  pub reversed : link.reverse ≡ r

-- the row of the trip ahead: its cells are those of compositions that may run on it, and values stand for them
pub record IsAhead (priced : Priced) (b : ℕ) (ahead : List (Option Cell)) (row : ℕ → ℤ) : Type 0 where
  pub holds : HoldsRow no_value (comps_of priced) row ahead
  pub runs : MayRunOn priced.day b ahead
  pub small : AreSmallCells most_ahead ahead

-- the prices of each composition's units, where the one trip gives them and where the other takes them, and what
-- shunting costs
pub record AreTurnSums (priced : Priced) (a b : ℕ) (credit debit : ℕ → ℤ) (shunting : ℤ) : Type 0 where
  pub credits : (comp : ℕ) → comp < comps_of priced
      → credit comp ≡ giving priced.day priced.entries a (composition_at priced.day comp)
  pub debits : (comp : ℕ) → comp < comps_of priced
      → debit comp ≡ taking priced.day priced.entries b (composition_at priced.day comp)
  pub credits_small : (comp : ℕ) → comp < comps_of priced → IsSmall most_units_price (credit comp)
  pub debits_small : (comp : ℕ) → comp < comps_of priced → IsSmall most_units_price (debit comp)
  pub shunting_is : shunting ≡ weighted priced.weight (pos priced.day.weights.shunting)
  pub shunting_small : IsSmall most_cost shunting

-- ---- of passes

abbrev pub value_at : List ℤ → ℕ → ℤ
value_at values comp = get_or values comp (pos 0)

abbrev pub priced_for : Passes → Priced
priced_for passes = priced_by passes.pricing.now

-- how many compositions the day has
abbrev pub comps_for : Passes → ℕ
comps_for passes = comps_of (priced_for passes)

-- the lists are those of the turn, and have a place for each composition
pub record IsForPasses (passes : Passes) : Type 0 where
  pub turn : IsPlainTurn (priced_for passes) passes.link passes.turn.reverse passes.turn.arriving passes.turn.departing
      passes.turn.uncouple passes.turn.couple
  pub sums : AreTurnSums (priced_for passes) passes.turn.arriving passes.turn.departing (value_at passes.credits.now)
      (value_at passes.debits.now) passes.shunting.0
  pub off : AreRests (priced_for passes).day passes.turn.uncouple (place_at passes.shorter.now)
  pub on : AreRests (priced_for passes).day passes.turn.couple (place_at passes.longer.now)
  pub places : AreTurnedPlaces (priced_for passes).day passes.turn.reverse (place_at passes.turned.now)
  pub shorter_long : length passes.shorter.now ≡ comps_for passes
  pub longer_long : length passes.longer.now ≡ comps_for passes
  pub turned_long : length passes.turned.now ≡ comps_for passes
  pub credits_long : length passes.credits.now ≡ suc (comps_for passes)
  pub debits_long : length passes.debits.now ≡ suc (comps_for passes)

-- the most that a value, or no value, comes to
abbrev pub most_held : ℕ
most_held = 9100000000000000000

-- the most that a value, or no value, comes to with the price of a composition's units
abbrev pub most_summed : ℕ
most_summed = 9106000000000000000

-- the values ahead: those of small cells of compositions that may run on the departing trip, and no value elsewhere
pub record AreAhead (passes : Passes) (values : List ℤ) : Type 0 where
  pub long : length values ≡ comps_for passes
  pub is : IsAhead (priced_for passes) passes.turn.departing (map cell_in values) (value_at values)
  pub small : (comp : ℕ) → comp < comps_for passes → IsSmall most_held (value_at values comp)

-- what stands for no sum of a value and a price of a composition's units: no such sum is below it where there is no cell
abbrev pub no_sum : ℤ
no_sum = pos 9094000000000000000

-- no composition from a number on has a cell ahead
pub record IsEndAhead (passes : Passes) (ahead : List ℤ) (end : ℕ) : Type 0 where
  pub within : end ≤ comps_for passes
  pub none : (comp : ℕ) → end ≤ comp → get_or (map cell_in ahead) comp None ≡ None

-- for each composition, and for no units, the least value with a debit over the longer compositions from a number on
pub record AreLonger (passes : Passes) (ahead : List ℤ) (from : ℕ) (longer : List ℤ) : Type 0 where
  pub long : length longer ≡ suc (comps_for passes)
  pub least : (comp : ℕ) → comp ≤ comps_for passes
      → IsLeastOver (IsOver (IsMadeOf (priced_for passes).day passes.turn.couple) (place_at passes.longer.now)
      (comps_for passes) from comp)
      (λ c. value_at ahead c +ℤ value_at passes.debits.now c) no_sum (value_at longer comp)
  pub small : (comp : ℕ) → comp ≤ comps_for passes → IsSmall most_summed (value_at longer comp)

-- for each composition below a number the least value with a credit over what it is made of; none for no units
pub record AreShorter (passes : Passes) (ahead : List ℤ) (at : ℕ) (shorter : List ℤ) : Type 0 where
  pub long : length shorter ≡ suc (comps_for passes)
  pub root : value_at shorter (comps_for passes) ≡ no_sum
  pub least : (comp : ℕ) → comp < at
      → IsLeastOver (IsMadeOf (priced_for passes).day passes.turn.uncouple comp)
      (λ c. value_at ahead c +ℤ value_at passes.credits.now c) no_sum (value_at shorter comp)
  pub small : (comp : ℕ) → comp < at → IsSmall most_summed (value_at shorter comp)

-- for each composition that may run on the arriving trip the value of the cell that the edges offer
pub record ArePassValues (passes : Passes) (ahead values : List ℤ) : Type 0 where
  pub long : length values ≡ comps_for passes
  pub each : (from : ℕ) → from < comps_for passes → IsAdmittedComp (priced_for passes).day passes.turn.arriving from
      → HoldsCell least_none (value_at values from)
      (offered_from (priced_for passes) (Some passes.link) (map cell_in ahead) from)

-- where a composition has a priced cost on a trip, the value that the passes found, if it is one, is small
abbrev pub IsPassedSmall : Priced → ℕ → ℕ → ℕ → ℤ → Type 0
IsPassedSmall priced t comp bound value =
    (priced_cost : ℤ) → priced_cost_of priced t comp ≡ Some priced_cost
    → IfSome (cell_in value) (λ cell. IsSmall bound cell.value)
