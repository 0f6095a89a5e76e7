use Rattle.std.proofs.Common.{◌≡◌}
use Rattle.search.specs.Conclusions.{plan_in}
use Rattle.search.specs.Improvements.{AreImproved}
use Rattle.search.specs.NodesInWork.{Advances}
use Rattle.search.proofs.improving.improve.Given as goal

abbrev pub invariant-loop-made : goal.invariant-loop-made
invariant-loop-made g l = record {
  same : g.R.Relaxation.problem l.problem ≡ g.R.Relaxation.problem l.fn.problem;
  advances : Advances (g.R.Relaxation.meanings (g.R.Relaxation.problem l.fn.problem)) l.terms.root.now (plan_in l.fn.best) (plan_in l.best) l.fn.work l.work;
  improved : AreImproved (g.R.Relaxation.meanings (g.R.Relaxation.problem l.fn.problem)) l.terms.root.now l.made (plan_in l.fn.best) (plan_in l.best) l.fn.work l.work;
}
