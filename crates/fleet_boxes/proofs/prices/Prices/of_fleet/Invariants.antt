-- The cost so far: that of the places so far, and no more than their units can cost.
use Rattle.std.proofs.Common.{◌≡◌, ◌≤◌, ◌*◌, take}
use Rattle.fleets.specs.Fleets.{fleet_size}
use Rattle.fleet_boxes.specs.declared.prices.TheConstants.{MAX_PRICE}
use Rattle.fleet_boxes.specs.Prices.{fleet_cost}
use Rattle.fleet_boxes.proofs.prices.Prices.of_fleet.Given as goal

abbrev pub invariant-loop-place : goal.invariant-loop-place
invariant-loop-place l = record {
  cost : l.cost ≡ fleet_cost l.self (take l.place l.fleet);
  few : l.cost ≤ MAX_PRICE * fleet_size (take l.place l.fleet);
}
