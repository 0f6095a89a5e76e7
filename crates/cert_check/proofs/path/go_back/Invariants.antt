use Rattle.std.proofs.Common.{◌≡◌, ◌<◌, ◌≤◌, All, length, vec_len, vec_capacity}
use Rattle.cert_check.specs.Paths.{root_from}
use Rattle.cert_check.proofs.path.go_back.Given as goal

abbrev pub decreases-loop-one : goal.decreases-loop-one
decreases-loop-one l = vec_len l.taken

abbrev pub invariant-loop-one : goal.invariant-loop-one
invariant-loop-one l = record {
  inside : All (λ one. one.mark.trip < length l.region) l.taken.items;
  root : root_from l.taken.items l.region ≡ root_from l.initial.taken.items l.initial.region;
  room : vec_capacity l.initial.taken ≤ vec_capacity l.taken;
}
