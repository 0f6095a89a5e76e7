use Rattle.fleet_check.proofs.PriceRows.{few_costs}
use Rattle.fleet_check.proofs.price_table.read_prices.Goals as goal

pub of-requires : goal.of-requires
of-requires c = few_costs _ c.args.instance.now.types c.in_ok-costs.costs.items c.in_ok-costs.ensures.ok.right
