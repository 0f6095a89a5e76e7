-- The flag of the trip tells it.
use Rattle.std.proofs.Common.{◌<◌, ◌∙◌, ℕ, length, get_or, ap, arith}
use Rattle.day_tables.specs.Flags.{LinksOfTrips}
use Rattle.day_tables.specs.LinkRows.{is_departing}
use Rattle.day_tables.proofs.building.linked.Linked.is_departing.Goals as goal

pub index-requires : goal.index-requires
index-requires c = omega (arith, c.self.invariant.as_many, ap (λ (so : LinksOfTrips). so.trips) c.self.view_is)

pub returns : goal.returns
returns c =
    let there : c.args.trip < length c.self.inside.departing.items = omega (arith, c.requires, c.self.invariant.as_many, ap (λ (so : LinksOfTrips). so.trips) c.self.view_is) in
    c.index.ensures ∙ ap (λ (t : ℕ). get_or c.self.inside.departing.items t c.index.result.now) c.place.ensures.number
    ∙ c.self.invariant.departing.up c.args.trip c.index.result.now there ∙ ap (λ (so : LinksOfTrips). is_departing so.links c.args.trip) c.self.view_is
