use Rattle.std.proofs.Common.{refl, sym, ◌∙◌, subst}
use Rattle.search.specs.declared.work.Work.{Work}
use Rattle.search.specs.Conclusions.{plan_in}
use Rattle.search.specs.NodesInWork.{IsWorkedOn}
use Rattle.search.proofs.Working.{advanced_by_cut, advanced_on, fits_for, worked_with_cut}
use Rattle.search.proofs.work.Work.take_up.Goals as goal

pub consider-requires-clause-fits : goal.consider-requires-clause-fits
consider-requires-clause-fits g c =
    fits_for (g.R.Relaxation.meanings (g.R.Relaxation.problem c.args.problem.now)) c.args.proposal.now c.in_ok-copy.field-0 c.requires.indices c.requires.free_from c.multipliers.ensures.fit
    (c.in_ok-copy.ensures ∙ c.multipliers-then-len-gt0.ensures.value)

pub consider-requires-clause-worked : goal.consider-requires-clause-worked
consider-requires-clause-worked g c =
    subst (λ (work : Work). IsWorkedOn (g.R.Relaxation.meanings (g.R.Relaxation.problem c.args.problem.now)) (plan_in c.args.best.now) work)
    (sym c.remember.ensures) (worked_with_cut _ _ _ _ c.requires.worked)

pub returns-in_ok-consider-clause-advances : goal.returns-in_ok-consider-clause-advances
returns-in_ok-consider-clause-advances g c =
    let p = g.R.Relaxation.problem c.args.problem.now in
    let problem = g.R.Relaxation.meanings p in
    let best = plan_in c.args.best.now in
    let before = c.args.self.now in
    let with_cut = c.remember.new.self in
    advanced_on g.R.Relaxation.meanings p p best best (plan_in c.consider.new.best) before with_cut c.consider.new.self refl
    (advanced_by_cut problem before.region best _ before with_cut c.remember.ensures c.requires.worked) c.in_ok-consider.ensures.advances

pub returns-else-len-gt0-clause-advances : goal.returns-else-len-gt0-clause-advances
returns-else-len-gt0-clause-advances g c = advanced_by_cut _ _ _ _ _ _ c.remember.ensures c.requires.worked
