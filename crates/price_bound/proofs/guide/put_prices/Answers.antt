-- The tables hold the costs and the prices.
use Rattle.price_bound.proofs.Crediting.{gives_by_type, sums_priced, takes_by_type}
use Rattle.price_bound.proofs.guide.put_prices.Goals as goal

pub fill_sums-requires-clause-gives : goal.fill_sums-requires-clause-gives
fill_sums-requires-clause-gives c =
    gives_by_type c.args.asked.now.instance.now c.args.asked.now.multipliers.now c.fill.new.self c.fill.ensures.prices c.entries.ensures.multipliers

pub fill_sums-requires-clause-takes : goal.fill_sums-requires-clause-takes
fill_sums-requires-clause-takes c =
    takes_by_type c.args.asked.now.instance.now c.args.asked.now.multipliers.now c.fill.new.self c.fill.ensures.prices c.entries.ensures.multipliers

pub put_all-requires-clause-priced : goal.put_all-requires-clause-priced
put_all-requires-clause-priced c = record {
  graphs_are = c.requires.graphs;
  multipliers_are = c.entries.ensures.multipliers;
  costs = c.requires.room.costs;
  prices = c.fill.ensures.prices;
  sums = sums_priced c.args.asked.now.instance.now c.args.asked.now.region.now c.args.asked.now.multipliers.now c.fill.new.self c.fill_sums.new.sums
      c.fill.ensures.prices c.fill_sums.ensures;
  trains = c.requires.room.trains;
  over = c.requires.region;
}
