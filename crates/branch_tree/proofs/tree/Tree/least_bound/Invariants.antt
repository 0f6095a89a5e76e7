use Rattle.std.proofs.Common.{take}
use Rattle.branch_tree.specs.Trees.{IsLeastOf, bounds_of}
use Rattle.branch_tree.proofs.tree.Tree.least_bound.Given as goal

abbrev pub invariant-loop-number : goal.invariant-loop-number
invariant-loop-number l = IsLeastOf (bounds_of (take l.number l.self)) l.least
