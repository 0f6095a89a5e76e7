use Rattle.std.proofs.Common.{◌≡◌, ◌≤◌, length, vec_capacity}
use Rattle.cert_check.proofs.Here.{IsHere}
use Rattle.cert_check.proofs.nodes.test_nodes.Given as goal

abbrev pub invariant-loop-number : goal.invariant-loop-number
invariant-loop-number g l = record {
  same : g.R.Relaxation.problem l.problem ≡ g.R.Relaxation.problem l.fn.problem;
  here : IsHere (g.R.Relaxation.meanings (g.R.Relaxation.problem l.fn.problem)) l.fn.root l.tree l.number l.taken.items l.root;
  best : length l.best ≡ length l.fn.best;
  few : length l.taken.items ≤ l.number;
  room : vec_capacity l.fn.taken ≤ vec_capacity l.taken;
}
