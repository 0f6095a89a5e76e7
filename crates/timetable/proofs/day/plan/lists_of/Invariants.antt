-- The lists so far and the rows still to come give what all rows give.
use Rattle.std.proofs.Common.{◌≡◌, ◌≤◌, [], length, drop}
use Rattle.timetable.specs.Plans.{accept_list}
use Rattle.timetable.specs.Rowwise.{accept_each}
use Rattle.timetable.proofs.day.plan.lists_of.Given as goal

abbrev pub invariant-loop-row : goal.invariant-loop-row
invariant-loop-row l =
    (accept_each (accept_list l.instance) l.lists.items (drop l.row-index l.rows) ≡ accept_each (accept_list l.instance) [] l.rows) ×
    (length l.lists.items ≤ 400)
