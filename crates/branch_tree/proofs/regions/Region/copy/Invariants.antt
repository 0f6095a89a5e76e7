use Rattle.std.proofs.Common.{◌≡◌, take}
use Rattle.branch_tree.proofs.regions.Region.copy.Given as goal

abbrev pub invariant-loop-set : goal.invariant-loop-set
invariant-loop-set l = l.sets.items ≡ take l.set-index l.set-items
