-- What is found once for a trip, a turn, a join or a split is what the tables have for it.
use Rattle.std.proofs.Common.{◌≡◌, ℕ, ◌<◌, List, [], length, get_or, true, false, Bool, Option, Some, None, sym, ap}
use Rattle.std.proofs.Common.{◌∙◌, subst, arith, ℤ, pos}
use Rattle.std.specs.Prelude.{IfSome, if◌then◌else◌, int_lt, option_map}
use Rattle.std.specs.List.{All}
use Rattle.rules.specs.declared.records.Link.{Link}
use Rattle.rules.specs.declared.records.LinkKind.{LinkKind}
use Rattle.timetable.specs.Compositions.{compositions_of, composition_at}
use Rattle.timetable.specs.Day.{Day}
use Rattle.timetable.specs.Handovers.{second_of}
use Rattle.transitions.specs.declared.edge.Edge.{Edge}
use Rattle.transitions.specs.declared.edge.Shunt.TheVariants.{Keep, Uncouple, Couple}
use Rattle.transitions.specs.Edges.{IsEdge, IsKindEdge, IsTurnEdge}
use Rattle.branch_tree.specs.declared.multipliers.Entry.{Entry}
use Rattle.price_bound.specs.declared.priced.Pricing.{Pricing}
use Rattle.price_bound.specs.declared.turn_prices.TurnPrices.{TurnPrices}
use Rattle.price_bound.specs.declared.priced_costs.Amount.{Amount}
use Rattle.price_bound.specs.TripAndLinkPrices.{IsForTurn}
use Rattle.price_bound.specs.CellSizes.{IsSmall, most_price, most_units_price}
use Rattle.price_bound.specs.ChainStages.{Priced, part_is_in, price_by_link, price_of}
use Rattle.price_bound.specs.Costs.{IsCostOf, cost_in}
use Rattle.price_bound.specs.Credits.{AreSmallAmounts, IsUnitPrice, sum_in}
use Rattle.price_bound.specs.EdgeValues.{coupling_value, edge_value, part_multiplier, turn_value, uncoupling_value}
use Rattle.price_bound.specs.PriceTables.{HasSize}
use Rattle.price_bound.specs.Pricing.{ArePriced, priced_by}
use Rattle.price_bound.specs.Regrouped.{second_price}
use Rattle.price_bound.specs.YardPrices.{giving, taking}
use Rattle.price_bound.proofs.Adding.{small_more}
use Rattle.price_bound.proofs.EdgeValues.{coupling_is, keeping_is, uncoupling_is}
use Rattle.price_bound.proofs.Filling.{are_few, part_small, second_small}
use Rattle.price_bound.proofs.Summing.{giving_is, gives_small, taking_is, takes_small}

-- ---- rows of tables

-- a row of credits or debits
module _ (day : Day) (price : ℕ → List ℕ → ℤ) (table : List (List ℤ)) (t comp : ℕ) (is : IsUnitPrice day price table t comp)
    (row : List ℤ) (at : row ≡ get_or table t []) where
  pub unit_price_at : get_or row comp (pos 0) ≡ price t (composition_at day comp)
  unit_price_at = ap (λ (amounts : List ℤ). get_or amounts comp (pos 0)) at ∙ is.value

  pub unit_price_small : IsSmall most_units_price (get_or row comp (pos 0))
  unit_price_small = subst (λ (amounts : List ℤ). IsSmall most_units_price (get_or amounts comp (pos 0))) (sym at) is.small

pub unit_prices_long : (rows columns : ℕ) (table : List (List ℤ)) → HasSize rows columns table → (t : ℕ) → t < rows → (row : List ℤ)
    → row ≡ get_or table t [] → length row ≡ columns
unit_prices_long rows columns table sized t known row at = ap length at ∙ sized.widths t known

module _ (pricing : Pricing) (is : ArePriced pricing) (t : ℕ) (known : t < length pricing.instance.now.trips) where
  abbrev day : Day
  day = pricing.instance.now

  abbrev entries : List Entry
  entries = pricing.multipliers.now

  abbrev comps : ℕ
  comps = length (compositions_of day)

  pub cost_at : (row : List ℤ) → row ≡ get_or pricing.costs.now t [] → (comp : ℕ) → comp < comps
      → IsCostOf day pricing.changes.now t comp (get_or row comp (pos 0))
  cost_at row at comp below =
      subst (λ (amounts : List ℤ). IsCostOf day pricing.changes.now t comp (get_or amounts comp (pos 0))) (sym at)
      (is.costs.costs t known comp below)

  pub costs_long : (row : List ℤ) → row ≡ get_or pricing.costs.now t [] → length row ≡ comps
  costs_long row at = ap length at ∙ is.costs.sized.widths t known

  pub second_at : (row : List ℤ) → row ≡ get_or pricing.tables.now.seconds t [] → (comp : ℕ) → comp < comps
      → get_or row comp (pos 0) ≡ second_price day entries t comp
  second_at row at comp below =
      ap (λ (amounts : List ℤ). get_or amounts comp (pos 0)) at ∙ is.prices.seconds t comp known below

  pub second_at_small : (row : List ℤ) → row ≡ get_or pricing.tables.now.seconds t [] → (comp : ℕ) → comp < comps
      → IsSmall most_price (get_or row comp (pos 0))
  second_at_small row at comp below =
      subst (IsSmall most_price) (sym (second_at row at comp below))
      (second_small day entries t comp (are_few day entries is.multipliers_are))

  pub seconds_long : (row : List ℤ) → row ≡ get_or pricing.tables.now.seconds t [] → length row ≡ comps
  seconds_long row at = ap length at ∙ is.prices.sized.seconds.widths t known

  -- the prices of units of a type that a trip takes, and that it gives
  module _ (row : List ℤ) (at : row ≡ get_or pricing.tables.now.takes t []) where
    pub takes_row_long : length row ≡ length day.types
    takes_row_long = ap length at ∙ is.prices.sized.takes.widths t known

    pub takes_row_small : AreSmallAmounts row
    takes_row_small = subst AreSmallAmounts (sym at) (takes_small day entries pricing.tables.now is.prices t known is.multipliers_are)

    pub taken_at : (ms : List ℕ) → All (λ m. m < length day.types) ms → sum_in row ms ≡ taking day entries t ms
    taken_at ms below =
        ap (λ (amounts : List ℤ). sum_in amounts ms) at ∙ taking_is day entries pricing.tables.now is.prices t known ms below

  module _ (row : List ℤ) (at : row ≡ get_or pricing.tables.now.gives t []) where
    pub gives_row_long : length row ≡ length day.types
    gives_row_long = ap length at ∙ is.prices.sized.gives.widths t known

    pub gives_row_small : AreSmallAmounts row
    gives_row_small = subst AreSmallAmounts (sym at) (gives_small day entries pricing.tables.now is.prices t known is.multipliers_are)

    pub given_at : (ms : List ℕ) → All (λ m. m < length day.types) ms → sum_in row ms ≡ giving day entries t ms
    given_at ms below =
        ap (λ (amounts : List ℤ). sum_in amounts ms) at ∙ giving_is day entries pricing.tables.now is.prices t known ms below

-- the multipliers of a part at the hand-over of a link
module _ (pricing : Pricing) (is : ArePriced pricing) (l : ℕ) (known : l < length pricing.instance.now.links) (row : List ℤ)
    (at : row ≡ get_or pricing.tables.now.parts l []) where
  pub part_at : (part : ℕ) → part < length (compositions_of pricing.instance.now)
      → get_or row part (pos 0) ≡ part_multiplier pricing.instance.now pricing.multipliers.now l part
  part_at part below =
      ap (λ (amounts : List ℤ). get_or amounts part (pos 0)) at ∙ is.prices.parts l part known below

  pub part_at_small : (part : ℕ) → part < length (compositions_of pricing.instance.now)
      → IsSmall 13000000000000000 (get_or row part (pos 0))
  part_at_small part below =
      subst (IsSmall 13000000000000000) (sym (part_at part below))
      (small_more most_price 13000000000000000
      (part_multiplier pricing.instance.now pricing.multipliers.now l part) (omega arith)
      (part_small pricing.instance.now pricing.multipliers.now l part
      (are_few pricing.instance.now pricing.multipliers.now is.multipliers_are)))

  pub parts_long : length row ≡ length (compositions_of pricing.instance.now)
  parts_long = ap length at ∙ is.prices.sized.parts.widths l known

-- the cost that an amount stands for is small
pub cost_small : (o : Option Amount) (amount : ℤ) → option_map (λ cost. cost.0) o ≡ cost_in amount → IsSmall 1000000000000 amount
    → IfSome o (λ cost. IsSmall 1000000000000 cost.0)
cost_small None amount is small = tt
cost_small (Some cost) amount is small = by (int_lt amount (pos 0)) is
  where
    by : (less : Bool) → Some cost.0 ≡ (if less then None else Some amount) → IsSmall 1000000000000 cost.0
    by true e = absurd cc
    by false e = let same : amount ≡ cost.0 = cc in subst (IsSmall 1000000000000) same small

abbrev by_kind : Priced → ℕ → LinkKind → Edge → Option ℤ
by_kind priced l kind edge =
    if part_is_in priced.region (second_of kind) edge.part
    then Some (edge_value priced.day priced.entries priced.weight l kind edge) else None

-- an edge of a turn is priced whatever the region
pub turn_priced : (prices : TurnPrices) → IsForTurn prices → (edge : Edge)
    → price_of (priced_by prices.pricing.now) (Some prices.link) edge
    ≡ Some (turn_value prices.pricing.now.instance.now prices.pricing.now.multipliers.now prices.pricing.now.weight
    prices.turn.arriving prices.turn.departing prices.turn.couple edge)
turn_priced prices is edge =
    let priced : Priced = priced_by prices.pricing.now in
    ap (λ (o : Option Link). price_by_link priced prices.link o edge) is.turn.at
    ∙ ap (λ (kind : LinkKind). by_kind priced prices.link kind edge) is.turn.is

-- an edge of a turn is allowed by the turn's rule
turn_edge : (prices : TurnPrices) (is : IsForTurn prices) (edge : Edge) → IsEdge prices.pricing.now.instance.now prices.link edge
    → IsTurnEdge prices.pricing.now.instance.now is.turn.link.reverse prices.turn.arriving prices.turn.departing is.turn.uncouple
    prices.turn.couple is.turn.exchange edge
turn_edge prices is edge allowed =
    let day : Day = prices.pricing.now.instance.now in
    let some : Some allowed.link ≡ Some is.turn.link = sym allowed.at ∙ is.turn.at in
    let same : allowed.link ≡ is.turn.link = cc in
    subst (λ (kind : LinkKind). IsKindEdge day kind is.turn.link.reverse edge) is.turn.is
    (subst (λ (link : Link). IsKindEdge day link.kind link.reverse edge) same allowed.kind)

module _ (prices : TurnPrices) (is : IsForTurn prices) (edge : Edge) (allowed : IsEdge prices.pricing.now.instance.now prices.link edge) where
  -- where it keeps the units, its price is 0
  pub keeping_priced : edge.shunt ≡ Keep → price_of (priced_by prices.pricing.now) (Some prices.link) edge ≡ Some (pos 0)
  keeping_priced keeps =
      turn_priced prices is edge
      ∙ ap (λ (value : ℤ). Some value) (keeping_is prices.pricing.now.instance.now prices.pricing.now.multipliers.now
      prices.pricing.now.weight is.turn.link.reverse prices.turn.arriving prices.turn.departing is.turn.uncouple prices.turn.couple
      is.turn.exchange edge (turn_edge prices is edge allowed) keeps)

  -- where it uncouples alone, it is priced by what arrived and does not depart
  pub uncoupling_priced : (units : ℕ) → edge.shunt ≡ Uncouple units → price_of (priced_by prices.pricing.now) (Some prices.link) edge
      ≡ Some (uncoupling_value prices.pricing.now.instance.now prices.pricing.now.multipliers.now prices.pricing.now.weight
      prices.turn.arriving edge)
  uncoupling_priced units uncouples =
      turn_priced prices is edge
      ∙ ap (λ (value : ℤ). Some value) (uncoupling_is prices.pricing.now.instance.now prices.pricing.now.multipliers.now
      prices.pricing.now.weight is.turn.link.reverse prices.turn.arriving prices.turn.departing is.turn.uncouple prices.turn.couple
      is.turn.exchange edge units (turn_edge prices is edge allowed) uncouples)

  -- where it couples alone, it is priced by what departs and had not arrived
  pub coupling_priced : (units : ℕ) → edge.shunt ≡ Couple units → price_of (priced_by prices.pricing.now) (Some prices.link) edge
      ≡ Some (coupling_value prices.pricing.now.instance.now prices.pricing.now.multipliers.now prices.pricing.now.weight
      prices.turn.departing edge)
  coupling_priced units couples =
      turn_priced prices is edge
      ∙ ap (λ (value : ℤ). Some value) (coupling_is prices.pricing.now.instance.now prices.pricing.now.multipliers.now
      prices.pricing.now.weight is.turn.link.reverse prices.turn.arriving prices.turn.departing is.turn.uncouple prices.turn.couple
      is.turn.exchange edge units (turn_edge prices is edge allowed) couples)
