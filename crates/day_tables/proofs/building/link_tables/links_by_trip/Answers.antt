use Rattle.std.proofs.Common.{◌≡◌, sym, length, subst, List, Option, ℕ, rules, arith}
use Rattle.std.specs.Prelude.{replicate, None}
use Rattle.day_tables.specs.LinkTables.{trips_on}
use Rattle.day_tables.proofs.Noting.{AreNoted, none_noted, one_noted, all_noted}
use Rattle.day_tables.proofs.building.link_tables.links_by_trip.Goals as goal

pub loop-left-init : goal.loop-left-init
loop-left-init c =
    let items : c.in_ok-table.table.items ≡ replicate c.args.trips None = search rules in
    subst (λ (table : List (Option ℕ)). AreNoted (trips_on c.args.side) c.args.links.now c.args.trips (length c.args.links.now) table) (sym items) (none_noted (trips_on c.args.side) c.args.links.now c.args.trips)

pub loop-left-preserved : goal.loop-left-preserved
loop-left-preserved c =
    one_noted (trips_on c.args.side) c.args.links.now c.args.trips c.loop-left.left c.loop-left.table.items c.note_link.new.table.items c.index-links-left.result
    c.loop-left.invariant c.loop-left-test.true c.note_link.ensures

pub returns : goal.returns
returns c =
    let done : c.loop-left.left ≡ 0 = omega (arith, c.loop-left-test.false) in
    all_noted (trips_on c.args.side) c.args.links.now c.args.trips c.loop-left.table.items
    (subst (λ (left : ℕ). AreNoted (trips_on c.args.side) c.args.links.now c.args.trips left c.loop-left.table.items) done c.loop-left.invariant)
