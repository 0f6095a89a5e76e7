use Rattle.std.proofs.Common.{◌≡◌, ◌≤◌, length, vec_len, vec_capacity}
use Rattle.cert_check.specs.Paths.{left_in, root_from, AreTaken}
use Rattle.cert_check.proofs.path.take_right.Given as goal

abbrev pub decreases-loop-last : goal.decreases-loop-last
decreases-loop-last l = vec_len l.taken

abbrev pub invariant-loop-last : goal.invariant-loop-last
invariant-loop-last l = record {
  taken : AreTaken l.catalogue l.taken.items l.region;
  left : left_in l.catalogue l.taken.items l.region ≡ left_in l.catalogue l.initial.taken.items l.initial.region;
  root : root_from l.taken.items l.region ≡ root_from l.initial.taken.items l.initial.region;
  few : length l.taken.items ≤ length l.initial.taken.items;
  room : vec_capacity l.initial.taken ≤ vec_capacity l.taken;
}
