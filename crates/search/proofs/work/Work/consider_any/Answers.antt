use Rattle.std.proofs.Common.{ℕ, sym, subst, ◌∙◌}
use Rattle.std.proofs.lemmas.Result.{on_ok_weaker}
use Rattle.branch_tree.specs.Entries.{DoFit}
use Rattle.search.specs.Conclusions.{plan_in}
use Rattle.search.proofs.Offering.{tried_by}
use Rattle.search.proofs.work.Work.consider_any.Goals as goal

pub returns-clause-tried : goal.returns-clause-tried
returns-clause-tried g c =
    let problem = g.R.Relaxation.meanings (g.R.Relaxation.problem c.args.problem.now) in
    on_ok_weaker c.consider.result
    (λ considered. tried_by problem c.args.multipliers _ (plan_in c.args.best.now) (plan_in c.consider.new.best) c.args.self.now c.consider.new.self c.in-Some.is
    (subst (λ (indices : ℕ). DoFit indices problem.free_from c.in-Some.multipliers) c.indices.ensures
    (subst (λ (from : ℕ). DoFit c.indices.result from c.in-Some.multipliers) c.free_from.ensures (c.fits.ensures.0 c.if-not-fits.false)))
    (sym c.is_open.ensures ∙ c.if-not-is_open.false) considered) c.consider.ensures.considered
