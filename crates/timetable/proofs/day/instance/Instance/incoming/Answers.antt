-- The entry of the trip is its link.
use Rattle.std.proofs.Common.{◌≡◌, ℕ, ◌<◌, List, Option, length, get_or, arith, ap, ◌∙◌}
use Rattle.timetable.specs.Day.{Day}
use Rattle.timetable.specs.Links.{departing_in, incoming}
use Rattle.timetable.specs.LinkTables.{link_naming}
use Rattle.timetable.proofs.LinkTables.{length-link_table, table_entry, entry_within}
use Rattle.timetable.proofs.day.instance.Instance.incoming.Goals as goal

pub index-requires : goal.index-requires
index-requires c = omega (arith, ap (λ (day : Day). length day.trips) c.self.view_is, ap (λ (xs : List (Option ℕ)). length xs) c.self.invariant.incoming, length-link_table departing_in c.self.inside.links.items (length c.self.inside.trips.items))

pub returns : goal.returns
unfolding incoming
returns c =
    let below : c.args.trip < length c.self.inside.trips.items = omega (arith, ap (λ (day : Day). length day.trips) c.self.view_is) in
    let entry : c.index.result.now ≡ link_naming departing_in c.self.inside.links.items c.args.trip =
    c.index.ensures ∙ ap (λ (t : ℕ). get_or c.self.inside.incoming.items t c.index.result.now) c.place.ensures.number
    ∙ table_entry departing_in c.self.inside.links.items (length c.self.inside.trips.items) c.args.trip c.self.inside.incoming.items c.index.result.now c.self.invariant.incoming below in
    rw (← c.self.view_is) (record { value = entry; within = entry_within departing_in c.self.inside.links.items c.args.trip c.index.result.now entry })
