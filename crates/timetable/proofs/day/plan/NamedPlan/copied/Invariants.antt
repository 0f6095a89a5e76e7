use Rattle.std.proofs.Common.{◌≡◌, take}
use Rattle.timetable.proofs.day.plan.NamedPlan.copied.Given as goal

-- the lists before this one are copied
abbrev pub invariant-loop-list : goal.invariant-loop-list
invariant-loop-list l = l.copy.items ≡ take l.list-index l.lists
