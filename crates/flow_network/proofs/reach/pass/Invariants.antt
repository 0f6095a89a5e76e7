use Rattle.std.proofs.Common.{length, is_none}
use Rattle.std.specs.List.{count_by}
use Rattle.flow_network.proofs.Reaching.{IsPassing}
use Rattle.flow_network.proofs.reach.pass.Given as goal

abbrev pub invariant-loop-number : goal.invariant-loop-number
invariant-loop-number l = IsPassing l.arcs (length l.fn.reach.steps.items) l.source (count_by is_none l.fn.reach.steps.items) l.more l.number l.reach.steps.items l.reach.found
