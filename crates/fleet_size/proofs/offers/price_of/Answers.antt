use Rattle.std.proofs.Common.{◌≡◌, ◌∙◌, sym}
use Rattle.std.specs.Prelude.{pos}
use Rattle.rail_base.specs.declared.numbers.Money.{Money}
use Rattle.timetable.specs.Cost.{plan_cost}
use Rattle.timetable.specs.Day.{Day}
use Rattle.fleets.specs.Fleets.{with_fleet}
use Rattle.fleet_boxes.specs.Prices.{fleet_cost}
use Rattle.fleet_check.specs.declared.found.Chosen.{Chosen}
use Rattle.fleet_check.specs.Chosen.{DoesRun}
use Rattle.fleet_size.proofs.Offering.{fleet_fits, matched, not_lower, runs_at_price, small_cost, small_units, some_price}
use Rattle.fleet_size.proofs.offers.price_of.Goals as goal

-- a plan that runs, with its cost
abbrev RunsAtCost : Day → Chosen → Money → Type 0
RunsAtCost day chosen cost = DoesRun day chosen × (cost.0 ≡ pos (plan_cost (with_fleet chosen.stock day) chosen.plan))

pub of_fleet-requires : goal.of_fleet-requires
of_fleet-requires c =
    let day = c.args.tables.instance.now in
    let runs : RunsAtCost day c.args.chosen.now c.in-Some.cost =
    matched (¬ DoesRun day c.args.chosen.now) (RunsAtCost day c.args.chosen.now) c.in_ok-cost.field-0 c.in-Some.cost c.in-Some.is c.in_ok-cost.ensures in
    let fits = fleet_fits day c.args.chosen.now.stock c.is_sound.ensures runs.0.fleet in
    record { prices = some_price day c.args.prices.now c.args.chosen.now.stock fits c.requires.prices; few = fits.few }

pub plus-price-requires : goal.plus-price-requires
plus-price-requires c =
    let day = c.args.tables.instance.now in
    let chosen = c.args.chosen.now in
    let runs : RunsAtCost day chosen c.in-Some.cost =
    matched (¬ DoesRun day chosen) (RunsAtCost day chosen) c.in_ok-cost.field-0 c.in-Some.cost c.in-Some.is c.in_ok-cost.ensures in
    record {
      one = small_cost c.in-Some.cost.0 (plan_cost (with_fleet chosen.stock day) chosen.plan) c.args.most.0 runs.1
          (not_lower c.args.most.0 c.in-Some.cost.0 (sym c.is_less-dearer.ensures ∙ c.if-dearer.false)) c.requires.most;
      other = small_units c.of_fleet.result.0 (fleet_cost c.args.prices.now chosen.stock) c.of_fleet.ensures.value c.of_fleet.ensures.small;
    }

pub returns : goal.returns
returns c =
    let day = c.args.tables.instance.now in
    let chosen = c.args.chosen.now in
    let runs : RunsAtCost day chosen c.in-Some.cost =
    matched (¬ DoesRun day chosen) (RunsAtCost day chosen) c.in_ok-cost.field-0 c.in-Some.cost c.in-Some.is c.in_ok-cost.ensures in (
      runs_at_price day c.args.prices.now chosen c.in-Some.cost.0 c.of_fleet.result.0 c.plus-price.result.0 runs.0 runs.1
          c.of_fleet.ensures.value c.plus-price.ensures,
      not_lower c.args.whole.0 c.plus-price.result.0 (sym c.is_less-beyond.ensures ∙ c.if-beyond.false),
    )
