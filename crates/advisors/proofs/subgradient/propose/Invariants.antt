use Rattle.std.proofs.Common.{◌≡◌, drop}
use Rattle.branch_tree.specs.Entries.{AreRising}
use Rattle.advisors.specs.Proposals.{DoesFit}
use Rattle.advisors.specs.Puts.{with_entries}
use Rattle.advisors.proofs.subgradient.propose.Given as goal
use Rattle.advisors.proofs.Merging.{merged}

abbrev pub invariant-loop-place : goal.invariant-loop-place
invariant-loop-place l = record {
  put : with_entries l.to (merged l.look l.entries (drop l.place l.look.slacks.now)) ≡ with_entries l.fn.to (merged l.look l.look.multipliers.now l.look.slacks.now);
  rising : AreRising l.entries;
  fit : DoesFit l.to;
}
