-- A link leads between trips of the day.
use Rattle.std.proofs.Common.{ℕ, ◌<◌, length, subst, sym}
use Rattle.timetable.proofs.Leading.{from_below, to_below}
use Rattle.cost_model.proofs.costs.cost_of_link.Goals as goal

pub types_on-arriving-requires-clause-trip : goal.types_on-arriving-requires-clause-trip
types_on-arriving-requires-clause-trip g c =
    let trips = length c.args.instance.now.trips in
    subst (λ (t : ℕ). t < trips) (sym c.leads_from.ensures) (from_below trips c.link.result.now.kind c.link.ensures.within.trips)

pub types_on-departing-requires-clause-trip : goal.types_on-departing-requires-clause-trip
types_on-departing-requires-clause-trip g c =
    let trips = length c.args.instance.now.trips in
    subst (λ (t : ℕ). t < trips) (sym c.leads_to.ensures) (to_below trips c.link.result.now.kind c.link.ensures.within.trips)
