use Rattle.std.proofs.Common.{refl, sym, subst}
use Rattle.std.proofs.lemmas.Result.{on_ok_weaker}
use Rattle.search.specs.Conclusions.{plan_in}
use Rattle.search.specs.Nodes.{IsSubregion}
use Rattle.search.specs.NodesInWork.{Advances, IsWorkedOn}
use Rattle.search.proofs.Working.{advanced_by_cut, advanced_by_offer, advanced_within}
use Rattle.search.proofs.work.Work.take_improvement.Goals as goal

pub consider_any-requires : goal.consider_any-requires
consider_any-requires g c =
    let problem = g.R.Relaxation.meanings (g.R.Relaxation.problem c.args.problem.now) in
    record {
      worked = subst (λ p. IsWorkedOn (g.R.Relaxation.meanings p) (plan_in c.offer_solutions.new.best) c.remember.new.self) (sym c.offer_solutions.ensures.same)
          (advanced_by_offer problem c.args.root.now (plan_in c.args.best.now) (plan_in c.offer_solutions.new.best) c.remember.new.self c.in_ok-offer_solutions.ensures.offered
          (advanced_by_cut problem c.args.root.now (plan_in c.args.best.now) _ c.args.self.now c.remember.new.self c.remember.ensures c.requires.worked).worked).worked;
    }

pub returns-clause-advances : goal.returns-clause-advances
returns-clause-advances g c =
    let p = g.R.Relaxation.problem c.args.problem.now in
    let problem = g.R.Relaxation.meanings p in
    let root = c.args.root.now in
    let first = plan_in c.args.best.now in
    let middle = plan_in c.offer_solutions.new.best in
    let last = plan_in c.consider_any.new.best in
    let before = c.args.self.now in
    let with_cut = c.remember.new.self in
    let cut : Advances problem root first first before with_cut = advanced_by_cut problem root first _ before with_cut c.remember.ensures c.requires.worked in
    let offered : Advances problem root first middle before with_cut =
    advanced_within g.R.Relaxation.meanings p p root root first first middle before with_cut with_cut refl (λ picks inside. inside) cut
    (advanced_by_offer problem root first middle with_cut c.in_ok-offer_solutions.ensures.offered cut.worked) in
    on_ok_weaker c.consider_any.result (λ tried.
    advanced_within g.R.Relaxation.meanings p (g.R.Relaxation.problem c.offer_solutions.new.problem) root with_cut.region first middle last before with_cut c.consider_any.new.self
    c.offer_solutions.ensures.same (subst (λ sets. IsSubregion root sets) (sym cut.region) c.requires.within) offered tried) c.consider_any.ensures.advances
