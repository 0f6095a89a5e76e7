use Rattle.std.proofs.Common.{◌≡◌, take}
use Rattle.search.specs.Conclusions.{plan_in}
use Rattle.search.specs.Improvements.{AreProposed}
use Rattle.search.specs.Offers.{IsOffered}
use Rattle.search.proofs.improving.offer_solutions.Given as goal

abbrev pub invariant-loop-place : goal.invariant-loop-place
invariant-loop-place g l = record {
  same : g.R.Relaxation.problem l.problem ≡ g.R.Relaxation.problem l.fn.problem;
  offered : IsOffered (g.R.Relaxation.meanings (g.R.Relaxation.problem l.fn.problem)) l.root (plan_in l.fn.best) (plan_in l.best);
  proposed : AreProposed (g.R.Relaxation.meanings (g.R.Relaxation.problem l.fn.problem)) l.root (take l.place l.proposed) (plan_in l.fn.best) (plan_in l.best);
}
