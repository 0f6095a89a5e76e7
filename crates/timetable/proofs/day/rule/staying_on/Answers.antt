-- What stays is what stays at the number that the turn keeps.
use Rattle.std.proofs.Common.{◌≡◌, ◌∙◌, map, ap}
use Rattle.rules.specs.declared.records.LinkKind.{LinkKind}
use Rattle.timetable.specs.Chains.{leads_from}
use Rattle.timetable.specs.Links.{list_of, turned}
use Rattle.timetable.proofs.Beside.{beside}
use Rattle.timetable.proofs.day.rule.staying_on.Goals as goal

pub returns-clause-parts : goal.returns-clause-parts
returns-clause-parts g c =
    let r = c.args.link.now.reverse in
    let lists = g.E.TripEntry.lists_of c.args.instance.now c.args.lists.now in
    let arriving : map g.E.TripEntry.number c.args.arriving.now ≡ turned r (list_of lists c.in-Turn.arriving) =
    c.requires.arriving ∙ ap (λ (k : LinkKind). turned r (list_of lists (leads_from k))) c.in-Turn.is in
    beside (g.E.TripEntry.type_of c.args.instance.now) c.args.link.now.kind r lists c.in-Turn.arriving c.in-Turn.departing c.in-Turn.uncouple c.in-Turn.couple c.in-Turn.exchange c.in-Turn.is
    c.staying_at.result c.kept_on-kept.result (map g.E.TripEntry.number c.args.arriving.now) (map g.E.TripEntry.number c.list-departing.result.now)
    c.kept_on-kept.ensures.number arriving c.list-departing.ensures.value c.staying_at.ensures.parts
