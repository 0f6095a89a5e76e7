-- What is found once for a trip, for a turn, and for a join or a split.
use Rattle.std.specs.Prelude.{ℕ, ◌≡◌, ◌<◌, List, [], length, get_or, Bool, is_none, Some, slice_get, ℤ, pos, ◌-ℤ◌}
use Rattle.rules.specs.declared.records.End.{End}
use Rattle.rules.specs.declared.records.Link.{Link}
use Rattle.rules.specs.declared.records.LinkKind.TheVariants.{Turn}
use Rattle.timetable.specs.Compositions.{composition_at}
use Rattle.timetable.specs.Day.{Day}
use Rattle.timetable.specs.Handovers.{second_of}
use Rattle.timetable.specs.Links.{incoming, outgoing}
use Rattle.transitions.specs.declared.edge.Edge.{Edge}
use Rattle.branch_tree.specs.declared.multipliers.Entry.{Entry}
use Rattle.branch_tree.specs.Meanings.{weighted}
use Rattle.branch_tree.specs.Regions.{set_at}
use Rattle.price_bound.specs.declared.part_prices.PartPrices.{PartPrices}
use Rattle.price_bound.specs.declared.turn_prices.TurnPrices.{TurnPrices}
use Rattle.price_bound.specs.declared.turn_prices.TurnTrips.{TurnTrips}
use Rattle.price_bound.specs.declared.priced_costs.PricedCosts.{PricedCosts}
use Rattle.price_bound.specs.CellSizes.{IsSmall, most_cost}
use Rattle.price_bound.specs.Credits.{is_whole}
use Rattle.price_bound.specs.EdgeValues.{came, coupled}
use Rattle.price_bound.specs.Pricing.{ArePriced}
use Rattle.price_bound.specs.YardPrices.{giving, taking}

-- the amounts are those of the trip
pub record IsForTrip (priced_costs : PricedCosts) : Type 0 where
  pub priced : ArePriced priced_costs.pricing.now
  pub known : priced_costs.trip < length priced_costs.pricing.now.instance.now.trips
  pub set : priced_costs.set.now ≡ set_at priced_costs.pricing.now.region.now priced_costs.trip
  pub costs : priced_costs.costs.now ≡ get_or priced_costs.pricing.now.costs.now priced_costs.trip []
  pub weight : priced_costs.weight ≡ priced_costs.pricing.now.weight
  pub begins : priced_costs.begins ≡ is_none (incoming priced_costs.pricing.now.instance.now priced_costs.trip)
  pub debits : priced_costs.debits.now ≡ get_or priced_costs.pricing.now.sums.now.debits priced_costs.trip []
  pub ends : priced_costs.ends ≡ is_none (outgoing priced_costs.pricing.now.instance.now priced_costs.trip)
  pub credits : priced_costs.credits.now ≡ get_or priced_costs.pricing.now.sums.now.credits priced_costs.trip []
  pub seconds : priced_costs.seconds.now ≡ get_or priced_costs.pricing.now.tables.now.seconds priced_costs.trip []

-- a link is a turn of these trips, which couples at this end
pub record IsTurnOf (day : Day) (l : ℕ) (turn : TurnTrips) : Type 0 where
  pub link : Link
  pub uncouple : End
  pub exchange : Bool
  pub at : slice_get day.links l ≡ Some link
  pub is : link.kind ≡ Turn turn.arriving turn.departing uncouple turn.couple exchange
  pub arriving : turn.arriving < length day.trips
  pub departing : turn.departing < length day.trips

-- the amounts are those of the turn
pub record IsForTurn (prices : TurnPrices) : Type 0 where
  pub priced : ArePriced prices.pricing.now
  pub known : prices.link < length prices.pricing.now.instance.now.links
  pub turn : IsTurnOf prices.pricing.now.instance.now prices.link prices.turn
  pub shunting : prices.shunting.0
      ≡ weighted prices.pricing.now.weight (pos prices.pricing.now.instance.now.weights.shunting)
  pub small : IsSmall most_cost prices.shunting.0
  pub takes : prices.takes.now ≡ get_or prices.pricing.now.tables.now.takes prices.turn.departing []
  pub gives : prices.gives.now ≡ get_or prices.pricing.now.tables.now.gives prices.turn.arriving []
  pub credits : prices.credits.now ≡ get_or prices.pricing.now.sums.now.credits prices.turn.arriving []
  pub has_credits : prices.has_credits ≡ is_whole prices.pricing.now.sums.now.summed.items prices.turn.arriving
  pub debits : prices.debits.now ≡ get_or prices.pricing.now.sums.now.debits prices.turn.departing []
  pub has_debits : prices.has_debits ≡ is_whole prices.pricing.now.sums.now.summed.items prices.turn.departing

-- the price of the units that come with an edge of a turn, where they are taken, less their price where they would be
-- given
abbrev pub coupled_price_of : Day → List Entry → TurnTrips → Edge → ℤ
coupled_price_of day entries turn edge =
    taking day entries turn.departing (came turn.couple (coupled edge.shunt) (composition_at day edge.to))
    -ℤ giving day entries turn.arriving (came turn.couple (coupled edge.shunt) (composition_at day edge.to))

-- a link is a join or a split with this second trip
pub record IsSecondOf (day : Day) (l t : ℕ) : Type 0 where
  pub link : Link
  pub at : slice_get day.links l ≡ Some link
  pub is : second_of link.kind ≡ Some t
  pub known : t < length day.trips

-- the amounts are those of the join or the split
pub record IsForParts (prices : PartPrices) : Type 0 where
  pub priced : ArePriced prices.pricing.now
  pub known : prices.link < length prices.pricing.now.instance.now.links
  pub second : ℕ
  pub is_second : IsSecondOf prices.pricing.now.instance.now prices.link second
  pub set : prices.set.now ≡ set_at prices.pricing.now.region.now second
  pub multipliers : prices.multipliers.now ≡ get_or prices.pricing.now.tables.now.parts prices.link []
