use Rattle.std.proofs.Common.{All, length}
use Rattle.search.specs.Frontiers.{IsEntered}
use Rattle.search.specs.Conclusions.{plan_in}
use Rattle.search.proofs.frontier.Frontier.next_open.Given as goal

abbrev pub decreases-loop-bound : goal.decreases-loop-bound
decreases-loop-bound l = length l.self.ranks.entries

abbrev pub invariant-loop-bound : goal.invariant-loop-bound
invariant-loop-bound l = All (IsEntered (plan_in l.best) l.self) l.nodes
