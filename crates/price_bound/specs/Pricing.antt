-- What is priced, with the tables of its costs and prices.
use Rattle.std.specs.Prelude.{ℕ, ◌≡◌, ◌<◌, length, IfSome}
use Rattle.transitions.specs.declared.edge.Edge.{Edge}
use Rattle.transitions.specs.Edges.{AreGraphs}
use Rattle.branch_tree.specs.Entries.{AreMultipliers}
use Rattle.price_bound.specs.declared.priced.Pricing.{Pricing}
use Rattle.price_bound.specs.ChainStages.{Priced}
use Rattle.price_bound.specs.CompositionTrees.{AreTrains}
use Rattle.price_bound.specs.Costs.{AreCosts}
use Rattle.price_bound.specs.Credits.{AreSumsPriced}
use Rattle.price_bound.specs.PriceTables.{ArePrices}

-- the edges are the day's, the tables hold its costs, the prices under the multipliers, the credits and the debits that
-- are asked for in the region, and the region has a set for each trip
pub record ArePriced (pricing : Pricing) : Type 0 where
  pub graphs_are : AreGraphs pricing.instance.now pricing.graphs.now
  pub multipliers_are : AreMultipliers pricing.multipliers.now
  pub costs : AreCosts pricing.instance.now pricing.changes.now pricing.costs.now
  pub prices : ArePrices pricing.instance.now pricing.multipliers.now pricing.tables.now
  pub sums : AreSumsPriced pricing.instance.now pricing.region.now pricing.multipliers.now pricing.sums.now
  pub trains : AreTrains pricing.instance.now pricing.trains.now
  pub over : length pricing.region.now ≡ length pricing.instance.now.trips

-- the compositions of an edge are below a number
pub record IsListed (n : ℕ) (edge : Edge) : Type 0 where
  pub from : edge.from < n
  pub to : edge.to < n
  pub part : IfSome edge.part (λ part. part < n)

-- what is priced
abbrev pub priced_by : Pricing → Priced
priced_by pricing = record {
  day = pricing.instance.now;
  graphs = pricing.graphs.now;
  changes = pricing.changes.now;
  entries = pricing.multipliers.now;
  weight = pricing.weight;
  region = pricing.region.now;
}
