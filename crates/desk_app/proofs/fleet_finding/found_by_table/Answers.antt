use Rattle.desk_app.proofs.FoundFleets.{prices_said}
use Rattle.desk_app.proofs.fleet_finding.found_by_table.Goals as goal

pub found_at_prices-requires-clause-prices : goal.found_at_prices-requires-clause-prices
found_at_prices-requires-clause-prices g c = c.in-Ok.ensures.prices.right.all

pub returns-in-Ok-clause-outcome : goal.returns-in-Ok-clause-outcome
returns-in-Ok-clause-outcome g c =
    prices_said c.args.read.now.instance c.args.planning.now c.args.bytes.now c.in-Ok.prices _ c.requires.few c.in-Ok.ensures.prices
    c.found_at_prices.ensures.outcome
