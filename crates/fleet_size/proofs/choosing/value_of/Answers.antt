use Rattle.std.proofs.Common.{◌≡◌, ◌∙◌, Some, ap, subst, sym}
use Rattle.std.specs.Prelude.{ℤ, ◌+ℤ◌}
use Rattle.fleet_boxes.specs.declared.nodes.BoxNode.{BoxNode}
use Rattle.fleet_boxes.specs.Prices.{fleet_cost}
use Rattle.rail_base.specs.declared.numbers.Money.{Money}
use Rattle.fleet_size.specs.Slots.{IsSmall}
use Rattle.fleet_size.specs.Values.{value_in}
use Rattle.fleet_size.proofs.Offering.{small_units}
use Rattle.fleet_size.proofs.choosing.value_of.Goals as goal

abbrev money : ℤ → Money
money z = record { 0 = z }

pub plus-requires-clause-one : goal.plus-requires-clause-one
plus-requires-clause-one c = subst IsSmall c.in-Bound.is c.requires.small

pub plus-requires-clause-other : goal.plus-requires-clause-other
plus-requires-clause-other c =
    small_units c.of_fleet.result.0 (fleet_cost c.args.prices.now c.args.slot.now.fleets.least) c.of_fleet.ensures.value
    c.of_fleet.ensures.small

pub returns-in-Bound : goal.returns-in-Bound
returns-in-Bound c =
    subst (λ (node : BoxNode). Some c.plus.result ≡ value_in c.args.prices.now c.args.slot.now.fleets node) (sym c.in-Bound.is)
    (ap (λ (z : ℤ). Some (money z))
    (c.plus.ensures ∙ ap (λ (z : ℤ). c.in-Bound.bound.0 +ℤ z) c.of_fleet.ensures.value))
