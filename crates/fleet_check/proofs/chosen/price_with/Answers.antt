use Rattle.std.proofs.Common.{◌≡◌, ◌<◌, ◌∙◌, ℤ, pos, ◌+ℤ◌, ap, arith}
use Rattle.rail_base.specs.declared.numbers.Money.{Money}
use Rattle.timetable.specs.Cost.{plan_cost}
use Rattle.timetable.specs.Day.{Day}
use Rattle.price_bound.specs.declared.sizes.TheConstants.{MAX_PRICED_VALUE}
use Rattle.fleets.specs.Fleets.{FitsDay, own_fleet, with_fleet}
use Rattle.fleets.proofs.OwnFleets.{own_fleet_fits}
use Rattle.fleets.proofs.Sizes.{smaller_fleets_fit}
use Rattle.fleets.proofs.SoundFleets.{days_of_fleets_are_sound}
use Rattle.fleet_boxes.specs.Prices.{fleet_cost}
use Rattle.fleet_boxes.specs.ProvedBoxes.{price_of}
use Rattle.fleet_check.proofs.SmallPrices.{plan_cost_is_small, small_number}
use Rattle.fleet_check.proofs.chosen.price_with.Goals as goal

pub of_fleet-requires-clause-few : goal.of_fleet-requires-clause-few
of_fleet-requires-clause-few c =
    (smaller_fleets_fit c.args.instance.now c.args.chosen.now.stock (own_fleet c.args.instance.now)
    (own_fleet_fits c.args.instance.now c.is_sound.ensures.limits.units.few) c.requires.runs.fleet).few

pub with_units-requires-clause-amount : goal.with_units-requires-clause-amount
with_units-requires-clause-amount c =
    let day : Day = with_fleet c.args.chosen.now.stock c.args.instance.now in
    let fit : FitsDay c.args.instance.now c.args.chosen.now.stock =
    smaller_fleets_fit c.args.instance.now c.args.chosen.now.stock (own_fleet c.args.instance.now)
    (own_fleet_fits c.args.instance.now c.is_sound.ensures.limits.units.few) c.requires.runs.fleet in
    let below : plan_cost day c.args.chosen.now.plan < MAX_PRICED_VALUE =
    plan_cost_is_small day (days_of_fleets_are_sound c.args.instance.now c.args.chosen.now.stock c.is_sound.ensures fit)
    c.args.chosen.now.plan c.requires.runs.does_run in
    small_number c.args.cost.0 (plan_cost day c.args.chosen.now.plan) MAX_PRICED_VALUE c.requires.cost (omega (arith, below))

pub with_units-requires-clause-unit_costs : goal.with_units-requires-clause-unit_costs
with_units-requires-clause-unit_costs c =
    small_number c.of_fleet.result.0 (fleet_cost c.args.prices.now c.args.chosen.now.stock) MAX_PRICED_VALUE c.of_fleet.ensures.value
    (omega (arith, c.of_fleet.ensures.small))

pub returns : goal.returns
returns c =
    let day : Day = with_fleet c.args.chosen.now.stock c.args.instance.now in
    let sum : c.with_units.result.0 ≡ pos (price_of c.args.instance.now c.args.prices.now c.args.chosen.now.stock c.args.chosen.now.plan) =
    c.with_units.ensures ∙ ap (λ (z : ℤ). z +ℤ c.of_fleet.result.0) c.requires.cost
    ∙ ap (λ (z : ℤ). pos (plan_cost day c.args.chosen.now.plan) +ℤ z) c.of_fleet.ensures.value in
    ap {B = Money} (λ (z : ℤ). record { 0 = z }) sum
