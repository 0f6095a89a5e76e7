-- The whole begins with the first list, and what is behind it is the second; or it does not.
use Rattle.std.proofs.Common.{◌∙◌}
use Rattle.timetable.proofs.Joining.{begins, begins_otherwise}
use Rattle.timetable.proofs.day.rule.is_joined.Goals as goal

pub returns-in-Some : goal.returns-in-Some
returns-in-Some c =
    c.eq.ensures
    ∙ begins c.args.first.now c.args.second.now c.args.whole.now c.in-Some.behind.now c.in-Some.ensures.cases.0 c.in-Some.ensures.cases.1

pub returns-in-None : goal.returns-in-None
returns-in-None c = begins_otherwise c.args.first.now c.args.second.now c.args.whole.now c.in-None.ensures.cases
