-- What goes where so many stay is given.
use Rattle.std.proofs.Common.{◌∙◌, ap, sym, map}
use Rattle.rules.specs.declared.records.LinkKind.{LinkKind}
use Rattle.timetable.specs.Chains.{leads_from}
use Rattle.timetable.specs.Links.{list_of, turned}
use Rattle.timetable.proofs.Beside.{turned_numbers, goes}
use Rattle.timetable.proofs.day.rule.given_by.Goals as goal

pub staying_on-staying-requires-clause-arriving : goal.staying_on-staying-requires-clause-arriving
staying_on-staying-requires-clause-arriving g c =
    let r = c.args.link.now.reverse in
    let lists = g.E.TripEntry.lists_of c.args.instance.now c.args.lists.now in
    turned_numbers g.E.TripEntry.number r c.list.result.now c.as_slice.result.now (list_of lists c.in-Turn.arriving) (c.as_slice.ensures.value ∙ c.turned-arriving.ensures) c.list.ensures.value
    ∙ ap (λ (k : LinkKind). turned r (list_of lists (leads_from k))) (sym c.in-Turn.is)

pub returns : goal.returns
returns g c =
    let r = c.args.link.now.reverse in
    let lists = g.E.TripEntry.lists_of c.args.instance.now c.args.lists.now in
    ap (map g.E.TripEntry.number) c.going.ensures
    ∙ goes (g.E.TripEntry.type_of c.args.instance.now) c.args.link.now.kind r lists c.in-Turn.arriving c.in-Turn.departing c.in-Turn.uncouple c.in-Turn.couple c.in-Turn.exchange c.in-Turn.is
    c.staying_on-staying.result c.staying_on-staying.ensures.parts g.E.TripEntry.number c.as_slice-2.result.now
    (turned_numbers g.E.TripEntry.number r c.list.result.now c.as_slice-2.result.now (list_of lists c.in-Turn.arriving) (c.as_slice-2.ensures.value ∙ c.turned-arriving.ensures) c.list.ensures.value)
