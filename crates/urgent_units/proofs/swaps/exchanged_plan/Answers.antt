use Rattle.std.proofs.Common.{List, ℕ, length, map, ap, arith}
use Rattle.timetable.specs.Links.{list_of}
use Rattle.timetable.proofs.Listing.{length-listed}
use Rattle.urgent_units.specs.Exchanges.{in_place}
use Rattle.urgent_units.proofs.swaps.exchanged_plan.Goals as goal

pub of-requires : goal.of-requires
of-requires c =
    let same = ap (λ (lists : List (List ℕ)). length lists) c.loop-number.invariant in
    let long = length-listed (λ t. map (in_place c.args.instance.now c.args.exchange.now.one c.args.exchange.now.other c.args.exchange.now.minute t) (list_of c.args.plan.now t)) c.loop-number.number in
    let within = c.loop-number.auto.number-end in
    omega (arith, same, long, within, c.trips-number-end.ensures.few)
