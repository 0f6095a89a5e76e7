-- A turn holds where some units stay.
use Rattle.std.proofs.Common.{◌∙◌}
use Rattle.timetable.specs.Day.{type_of}
use Rattle.timetable.specs.Links.{link_holds}
use Rattle.timetable.proofs.Beside.{holds_where_some}
use Rattle.timetable.proofs.day.rule.link_holds.Goals as goal

pub returns-in-Turn : goal.returns-in-Turn
unfolding link_holds
returns-in-Turn c =
    c.is_some.ensures
    ∙ holds_where_some (type_of c.args.instance.now) c.args.link.now.kind c.args.link.now.reverse c.args.plan.now c.in-Turn.arriving c.in-Turn.departing c.in-Turn.uncouple c.in-Turn.couple
    c.in-Turn.exchange c.in-Turn.is c.staying_on-staying.result c.staying_on-staying.ensures.parts
