use Rattle.std.proofs.Common.{◌≡◌, ◌≤◌, take}
use Rattle.branch_tree.specs.Trees.{KeepLimits, branchings_of}
use Rattle.branch_tree.proofs.tree.Tree.branchings.Given as goal

abbrev pub invariant-loop-number : goal.invariant-loop-number
invariant-loop-number l = record {
  counted : l.branchings ≡ branchings_of (take l.number l.self);
  few : l.branchings ≤ l.number;
  within : KeepLimits (take l.number l.self);
}
