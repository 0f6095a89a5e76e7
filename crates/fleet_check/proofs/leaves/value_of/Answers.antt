use Rattle.std.proofs.Common.{◌<◌, ◌∙◌, ℤ, ◌+ℤ◌, ap, arith}
use Rattle.std.specs.Prelude.{unsigned_abs}
use Rattle.timetable.specs.Day.{Day}
use Rattle.price_bound.specs.declared.sizes.TheConstants.{MAX_PRICED_VALUE}
use Rattle.fleets.specs.Fleets.{with_fleet}
use Rattle.fleets.proofs.SoundFleets.{days_of_fleets_are_sound}
use Rattle.fleet_boxes.specs.Prices.{fleet_cost}
use Rattle.fleet_check.proofs.Fitting.{least_fits}
use Rattle.fleet_check.proofs.SmallPrices.{proved_bound_is_small, small_number}
use Rattle.fleet_check.proofs.leaves.value_of.Goals as goal

pub of_fleet-requires-clause-few : goal.of_fleet-requires-clause-few
of_fleet-requires-clause-few c = (least_fits c.args.instance.now c.args.fleets.now c.requires.fits).few

pub with_units-requires-clause-amount : goal.with_units-requires-clause-amount
with_units-requires-clause-amount c =
    let day : Day = with_fleet c.args.fleets.now.greatest c.args.instance.now in
    let below : unsigned_abs c.args.bound.0 < MAX_PRICED_VALUE =
    proved_bound_is_small day (days_of_fleets_are_sound c.args.instance.now c.args.fleets.now.greatest c.is_sound.ensures c.requires.fits.greatest)
    c.args.bound.0 c.requires.proved.0 c.args.tree.now c.branchings.ensures.within c.requires.proved.1 in
    omega (arith, below)

pub with_units-requires-clause-unit_costs : goal.with_units-requires-clause-unit_costs
with_units-requires-clause-unit_costs c =
    small_number c.of_fleet.result.0 (fleet_cost c.args.prices.now c.args.fleets.now.least) MAX_PRICED_VALUE c.of_fleet.ensures.value
    (omega (arith, c.of_fleet.ensures.small))

pub returns : goal.returns
returns c = c.with_units.ensures ∙ ap (λ (z : ℤ). c.args.bound.0 +ℤ z) c.of_fleet.ensures.value
