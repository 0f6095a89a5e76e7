-- The edges before the one place are below, and those from the other on are not.
use Rattle.std.proofs.Common.{ℕ, ◌<◌, ◌≤◌, ◌-◌, length, get_or}
use Rattle.transitions.specs.declared.edge.Edge.{Edge}
use Rattle.price_bound.specs.EdgeGroups.{IsBelow, IsNotBelow}
use Rattle.price_bound.proofs.least_edges.halved_from.Given as goal

abbrev pub invariant-loop-low : goal.invariant-loop-low
invariant-loop-low l = record {
  order : l.low ≤ l.high;
  within : l.high ≤ length l.edges;
  before : (k : ℕ) (d : Edge) → k < l.low → IsBelow (get_or l.edges k d) l.fn.comp l.fn.to;
  after : (k : ℕ) (d : Edge) → l.high ≤ k → k < length l.edges → IsNotBelow (get_or l.edges k d) l.fn.comp l.fn.to;
}

abbrev pub decreases-loop-low : goal.decreases-loop-low
decreases-loop-low l = l.high - l.low
