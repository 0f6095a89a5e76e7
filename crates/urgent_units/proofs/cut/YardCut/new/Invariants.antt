-- The stations so far: each has its moments, and none of them is in the set.
use Rattle.std.proofs.Common.{◌≡◌, ◌<◌, ℕ, length, false}
use Rattle.urgent_units.specs.Cuts.{is_in, moments_in}
use Rattle.urgent_units.specs.Moments.{moment_count}
use Rattle.urgent_units.proofs.cut.YardCut.new.Given as goal

abbrev pub invariant-loop-number : goal.invariant-loop-number
invariant-loop-number l = record {
  stations : length l.stations.items ≡ l.number;
  moments : (s : ℕ) → s < l.number → length (moments_in l.stations.items s) ≡ moment_count l.legs s;
  empty : (s k : ℕ) → is_in l.stations.items s k ≡ false;
}
