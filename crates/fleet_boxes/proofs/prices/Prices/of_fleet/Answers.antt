-- Each place adds what its units cost, and so many units cost little enough.
use Rattle.std.proofs.Common.{◌≡◌, ◌≤◌, ◌*◌, ◌+◌, take, arith}
use Rattle.fleets.specs.Fleets.{fleet_size}
use Rattle.fleet_boxes.proofs.CostSums.{few_costs, next_cost, next_size, part_size, still_few}
use Rattle.fleet_boxes.proofs.prices.Prices.of_fleet.Goals as goal

pub overflow_add-cost : goal.overflow_add-cost
overflow_add-cost c =
    let size = next_size c.loop-place.place c.at.result c.args.fleet.now c.at.ensures in
    let part = part_size (c.loop-place.place + 1) c.args.fleet.now in
    let few : c.loop-place.cost + c.at.result * c.at-in-loop-place.result ≤ 1999999998000 =
    few_costs c.loop-place.cost (fleet_size (take c.loop-place.place c.args.fleet.now)) c.at.result c.at-in-loop-place.result (fleet_size c.args.fleet.now)
    c.loop-place.invariant.few c.at-in-loop-place.ensures.few (omega arith) c.requires.few in
    let same : c.from.result * c.from-in-loop-place.result ≡ c.at.result * c.at-in-loop-place.result = λ i. c.from.ensures i * c.from-in-loop-place.ensures i in
    omega arith

pub loop-place-preserved : goal.loop-place-preserved
loop-place-preserved c =
    let same : c.from.result * c.from-in-loop-place.result ≡ c.at.result * c.at-in-loop-place.result = λ i. c.from.ensures i * c.from-in-loop-place.ensures i in
    let size = next_size c.loop-place.place c.at.result c.args.fleet.now c.at.ensures in
    let next = next_cost c.args.self.now c.loop-place.place c.at.result c.at-in-loop-place.result c.args.fleet.now c.at.ensures c.at-in-loop-place.ensures.value in
    let step = still_few c.loop-place.cost (fleet_size (take c.loop-place.place c.args.fleet.now)) c.at.result c.at-in-loop-place.result
    c.loop-place.invariant.few c.at-in-loop-place.ensures.few in
    let cost = c.loop-place.invariant.cost in
    record { cost = omega arith; few = omega arith }
