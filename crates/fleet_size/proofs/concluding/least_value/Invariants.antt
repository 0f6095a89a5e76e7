-- The least value so far.
use Rattle.std.proofs.Common.{take}
use Rattle.branch_tree.specs.Trees.{IsLeastOf}
use Rattle.fleet_size.specs.Values.{values_at}
use Rattle.fleet_size.proofs.concluding.least_value.Given as goal

abbrev pub invariant-loop-place : goal.invariant-loop-place
invariant-loop-place l = IsLeastOf (values_at l.prices (take l.place l.slots)) l.least
