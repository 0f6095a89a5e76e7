use Rattle.std.proofs.Common.{ℕ, ◌<◌, ◌≤◌, ◌-◌, length, get_or}
use Rattle.branch_tree.specs.declared.multipliers.Entry.{Entry}
use Rattle.branch_tree.proofs.multipliers.place_of.Given as goal

abbrev pub invariant-loop-low : goal.invariant-loop-low
invariant-loop-low l = record {
  order : l.low ≤ l.high;
  within : l.high ≤ length l.entries;
  before : (k : ℕ) (d : Entry) → k < l.low → (get_or l.entries k d).index < l.index;
  after : (k : ℕ) (d : Entry) → l.high ≤ k → k < length l.entries → l.index ≤ (get_or l.entries k d).index;
}

abbrev pub decreases-loop-low : goal.decreases-loop-low
decreases-loop-low l = l.high - l.low
