-- What an advisor would have tried at a node.
use Rattle.std.specs.Prelude.{ℕ, List, Option}
use Rattle.branch_tree.specs.declared.multipliers.Entry.{Entry}
use Rattle.branch_tree.specs.declared.cuts.Cut.{Cut}

-- multipliers for a number of indices, of which those from `free_from` on may be negative, and at most one cut
pub record Proposed : Type 0 where
  pub indices : ℕ
  pub free_from : ℕ
  pub multipliers : List Entry
  pub cut : Option Cut
