-- The numbers of a list that turned round.
use Rattle.timetable.specs.Links.{list_of}
use Rattle.timetable.proofs.Beside.{turned_numbers, few_turned}
use Rattle.timetable.proofs.day.rule.arriving_list.Goals as goal

pub returns : goal.returns
returns g c = record {
  numbers = turned_numbers g.E.TripEntry.number c.args.link.now.reverse c.list.result.now c.turned.result.items
      (list_of (g.E.TripEntry.lists_of c.args.instance.now c.args.lists.now) c.args.trip) c.turned.ensures c.list.ensures.value;
  few = few_turned _ c.args.link.now.reverse c.list.result.now c.turned.result.items c.turned.ensures c.list.ensures.few;
}
