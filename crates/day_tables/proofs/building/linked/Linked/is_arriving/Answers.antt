-- The flag of the trip tells it.
use Rattle.std.proofs.Common.{◌<◌, ◌∙◌, ℕ, length, get_or, ap, arith}
use Rattle.day_tables.specs.Flags.{LinksOfTrips}
use Rattle.day_tables.specs.LinkRows.{is_arriving}
use Rattle.day_tables.proofs.building.linked.Linked.is_arriving.Goals as goal

pub index-requires : goal.index-requires
index-requires c = omega (arith, ap (λ (so : LinksOfTrips). so.trips) c.self.view_is)

pub returns : goal.returns
returns c =
    let there : c.args.trip < length c.self.inside.arriving.items = omega (arith, c.requires, ap (λ (so : LinksOfTrips). so.trips) c.self.view_is) in
    c.index.ensures ∙ ap (λ (t : ℕ). get_or c.self.inside.arriving.items t c.index.result.now) c.place.ensures.number
    ∙ c.self.invariant.arriving.up c.args.trip c.index.result.now there ∙ ap (λ (so : LinksOfTrips). is_arriving so.links c.args.trip) c.self.view_is
