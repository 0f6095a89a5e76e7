-- A chain has no more trips than the day.
use Rattle.price_bound.proofs.Finding.{chain_few}
use Rattle.price_bound.proofs.guide.put_cells.Goals as goal

pub fill-requires-clause-few : goal.fill-requires-clause-few
fill-requires-clause-few c =
    chain_few c.args.pricing.now.instance.now c.loop-chain.chain c.chain-trips.result.now c.chain-trips.ensures.value
