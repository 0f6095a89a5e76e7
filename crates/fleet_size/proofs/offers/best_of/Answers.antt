use Rattle.std.proofs.Common.{Some}
use Rattle.std.specs.Prelude.{pos, ◌≤ℤ◌}
use Rattle.rail_base.specs.declared.numbers.Money.{Money}
use Rattle.fleet_boxes.specs.Prices.{fleet_cost}
use Rattle.fleet_check.specs.Chosen.{RunsAtPrice}
use Rattle.fleet_size.proofs.Offering.{fleet_fits, level, matched, no_more, small_units, whole_runs}
use Rattle.fleet_size.proofs.offers.best_of.Goals as goal

pub of_fleet-requires-clause-few : goal.of_fleet-requires-clause-few
of_fleet-requires-clause-few c = (fleet_fits c.args.tables.instance.now c.args.offer.fleet.now c.is_sound.ensures c.requires.offer.within).few

pub plus-whole-requires-clause-other : goal.plus-whole-requires-clause-other
plus-whole-requires-clause-other c =
    small_units c.of_fleet.result.0 (fleet_cost c.args.prices.now c.args.offer.fleet.now) c.of_fleet.ensures.value
    c.of_fleet.ensures.small

pub returns-in-Some : goal.returns-in-Some
returns-in-Some c =
    let known = matched (Unit {0}) (λ (price : Money). RunsAtPrice c.args.tables.instance.now c.args.prices.now (Some c.in_ok-trimmed.trimmed) price.0 × (price.0 ≤ℤ c.plus-whole.result.0))
    c.in_ok-price.field-0 c.in-Some.price c.in-Some.is c.in_ok-price.ensures in
    record {
      runs = known.0;
      cheap = no_more c.in-Some.price.0 c.plus-whole.result.0 c.args.offer.cost.0 c.of_fleet.result.0 (pos (fleet_cost c.args.prices.now c.args.offer.fleet.now)) known.1 c.plus-whole.ensures c.of_fleet.ensures.value;
    }

pub returns-clause-cheap : goal.returns-clause-cheap
returns-clause-cheap c =
    no_more c.plus-whole.result.0 c.plus-whole.result.0 c.args.offer.cost.0 c.of_fleet.result.0 (pos (fleet_cost c.args.prices.now c.args.offer.fleet.now)) (level c.plus-whole.result.0) c.plus-whole.ensures c.of_fleet.ensures.value

pub returns-clause-runs : goal.returns-clause-runs
returns-clause-runs c =
    whole_runs c.args.tables.instance.now c.args.prices.now c.args.offer.fleet.now c.in_ok-stock.stock c.args.offer.plan
    c.args.offer.cost.0 c.of_fleet.result.0 c.plus-whole.result.0 c.requires.offer c.in_ok-stock.ensures
    c.of_fleet.ensures.value c.plus-whole.ensures
