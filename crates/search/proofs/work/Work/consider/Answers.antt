use Rattle.std.proofs.Common.{refl, sym, subst, ap, rules}
use Rattle.search.specs.declared.work.Work.{Work}
use Rattle.search.specs.Evaluations.{IsOutcome}
use Rattle.search.specs.Conclusions.{plan_in}
use Rattle.search.specs.NodesInWork.{IsWorkedOn}
use Rattle.search.proofs.Evaluating.{is_ending}
use Rattle.search.proofs.Working.{worked_after, worked_ended}
use Rattle.search.proofs.work.Work.consider.Goals as goal

pub evaluate-requires-clause-region : goal.evaluate-requires-clause-region
evaluate-requires-clause-region g c = c.requires.worked.sets

pub returns-in_ok-learn-in-Open-clause-advances : goal.returns-in_ok-learn-in-Open-clause-advances
returns-in_ok-learn-in-Open-clause-advances g c =
    let problem = g.R.Relaxation.meanings (g.R.Relaxation.problem c.args.problem.now) in
    let best = plan_in c.evaluate.new.best in
    let outcome = subst (λ outcome. IsOutcome problem c.args.self.now.region c.args.multipliers best outcome) c.in-Open.is c.in_ok-ending.ensures.outcome in
    record {
      region = ap (λ (work : Work). work.region) c.in_ok-learn-in-Open.ensures;
      offered = c.in_ok-ending.ensures.offered;
      worked = subst (λ work. IsWorkedOn problem best work) (sym c.in_ok-learn-in-Open.ensures)
          (worked_after problem (plan_in c.args.best.now) best c.args.self.now c.in-Open.evaluation c.requires.worked outcome.0 outcome.2 c.in_ok-ending.ensures.offered);
    }

pub returns-in-Ended-clause-advances : goal.returns-in-Ended-clause-advances
returns-in-Ended-clause-advances g c =
    let problem = g.R.Relaxation.meanings (g.R.Relaxation.problem c.args.problem.now) in
    let best = plan_in c.evaluate.new.best in
    let region = c.args.self.now.region in
    let outcome = subst (λ outcome. IsOutcome problem region c.args.multipliers best outcome) c.in-Ended.is c.in_ok-ending.ensures.outcome in
    record {
      region = refl;
      offered = c.in_ok-ending.ensures.offered;
      worked = worked_ended problem (plan_in c.args.best.now) best c.args.self.now c.in-Ended.ending c.requires.worked c.in_ok-ending.ensures.offered
          (is_ending problem region c.args.multipliers best c.in-Ended.ending outcome);
    }

pub returns-in-Ended-clause-considered : goal.returns-in-Ended-clause-considered
returns-in-Ended-clause-considered g c = search rules
