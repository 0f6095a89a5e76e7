use Rattle.std.proofs.Common.{ℕ, List, length, ap, arith}
use Rattle.std.proofs.lemmas.List.{length-map}
use Rattle.timetable.specs.DerivedDays.{old_number}
use Rattle.timetable.specs.Links.{list_of}
use Rattle.timetable.specs.Lists.{below}
use Rattle.inventory.proofs.Named.{length-below}
use Rattle.replan.proofs.rest_of_day.plan_later.Goals as goal

pub of-requires-2 : goal.of-requires-2
of-requires-2 c =
    let many = length-map (below c.loop-trip.trip) (λ (t : ℕ). list_of c.args.disturbance.now.plan (old_number c.args.disturbance.now.day c.args.disturbance.now.cancelled t)) in
    let long = length-below c.loop-trip.trip in
    let as_many = ap (λ (lists : List (List ℕ)). length lists) c.loop-trip.invariant in
    omega (arith, many, long, as_many, c.trips-trip-end.ensures.few)
