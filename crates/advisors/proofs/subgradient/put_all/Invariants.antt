use Rattle.std.proofs.Common.{◌≡◌, drop}
use Rattle.advisors.specs.Proposals.{DoesFit}
use Rattle.advisors.specs.Puts.{with_entries}
use Rattle.advisors.proofs.subgradient.put_all.Given as goal

abbrev pub invariant-loop-place : goal.invariant-loop-place
invariant-loop-place l = record {
  put : with_entries l.to (drop l.place l.entries) ≡ with_entries l.fn.to l.entries;
  fit : DoesFit l.to;
}
