-- What stays at a turn where so many do; and at a join and a split the whole of a list.
use Rattle.std.proofs.Common.{◌∙◌, map, ap, sym}
use Rattle.rules.specs.declared.records.LinkKind.{LinkKind}
use Rattle.timetable.specs.Chains.{leads_from}
use Rattle.timetable.specs.Links.{list_of, turned}
use Rattle.timetable.proofs.Beside.{stays_on}
use Rattle.timetable.proofs.LinkKept.{turn_kept, join_kept}
use Rattle.timetable.proofs.day.rule.kept_by.Goals as goal

pub staying_on-staying-requires-clause-arriving : goal.staying_on-staying-requires-clause-arriving
staying_on-staying-requires-clause-arriving g c =
    ap (map g.E.TripEntry.number) c.as_slice.ensures.value ∙ c.arriving_list-arriving.ensures.numbers
    ∙ ap (λ (k : LinkKind). turned c.args.link.now.reverse (list_of (g.E.TripEntry.lists_of c.args.instance.now c.args.lists.now) (leads_from k))) (sym c.in-Turn.is)

pub returns-in-Turn : goal.returns-in-Turn
returns-in-Turn g c =
    let r = c.args.link.now.reverse in
    let type_of = g.E.TripEntry.type_of c.args.instance.now in
    let lists = g.E.TripEntry.lists_of c.args.instance.now c.args.lists.now in
    ap (map g.E.TripEntry.number) c.left.ensures
    ∙ stays_on type_of c.args.link.now.kind r lists c.in-Turn.arriving c.in-Turn.departing c.in-Turn.uncouple c.in-Turn.couple c.in-Turn.exchange c.in-Turn.is
    c.staying_on-staying.result c.staying_on-staying.ensures.parts g.E.TripEntry.number c.as_slice-in-Turn.result.now
    (ap (map g.E.TripEntry.number) c.as_slice-in-Turn.ensures.value ∙ c.arriving_list-arriving.ensures.numbers)
    ∙ turn_kept type_of r lists c.args.from c.args.to c.args.link.now.kind (sym c.leads.ensures.named ∙ c.if-not-leads.false)
    c.in-Turn.arriving c.in-Turn.departing c.in-Turn.uncouple c.in-Turn.couple c.in-Turn.exchange c.in-Turn.is

pub returns-in-Join : goal.returns-in-Join
returns-in-Join g c =
    c.arriving_list.ensures.numbers
    ∙ join_kept (g.E.TripEntry.type_of c.args.instance.now) c.args.link.now.reverse (g.E.TripEntry.lists_of c.args.instance.now c.args.lists.now) c.args.from c.args.to c.args.link.now.kind
    (sym c.leads.ensures.named ∙ c.if-not-leads.false) c.in-Join.first c.in-Join.second c.in-Join.departing c.in-Join.is
