use Rattle.std.proofs.Common.{ℕ, ◌<◌, get_or}
use Rattle.branch_tree.specs.declared.multipliers.Entry.{Entry}
use Rattle.advisors.proofs.subgradient.count_below.Given as goal

abbrev pub invariant-loop-place : goal.invariant-loop-place
invariant-loop-place l = (k : ℕ) (d : Entry) → k < l.place → (get_or l.entries k d).index < l.index
