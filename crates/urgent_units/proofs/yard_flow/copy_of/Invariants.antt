-- The trips so far.
use Rattle.std.proofs.Common.{◌≡◌}
use Rattle.timetable.specs.Links.{list_of}
use Rattle.timetable.specs.Lists.{listed}
use Rattle.urgent_units.proofs.yard_flow.copy_of.Given as goal

abbrev pub invariant-loop-number : goal.invariant-loop-number
invariant-loop-number l = l.lists.items ≡ listed (λ t. list_of l.plan t) l.number
