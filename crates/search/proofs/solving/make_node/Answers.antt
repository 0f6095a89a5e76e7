use Rattle.std.proofs.Common.{◌≡◌, ℕ, true, refl, subst, sym, ap, ◌∙◌}
use Rattle.branch_tree.specs.Claims.{is_open}
use Rattle.search.specs.declared.nodes.SearchNode.TheVariants.{Fixed}
use Rattle.search.specs.declared.evaluation.EvaluationEnd.TheVariants.{Ended, Open}
use Rattle.search.specs.declared.work.Work.{Work}
use Rattle.search.specs.Evaluations.{IsOutcome}
use Rattle.search.specs.Improvements.{AreImproved}
use Rattle.search.specs.Nodes.{IsLeafOf, IsSubregion}
use Rattle.search.specs.Conclusions.{plan_in}
use Rattle.search.specs.NodesInWork.{Advances, HasInherited, IsWorkedOn}
use Rattle.search.specs.Offers.{IsOffered}
use Rattle.search.specs.Putting.{IsInheritedAndAdvised}
use Rattle.search.specs.Rounds.{AreAdvised}
use Rattle.search.proofs.Asking.{only_unasked}
use Rattle.search.proofs.Evaluating.{is_ending, offered_again}
use Rattle.search.proofs.Offering.{offered_within}
use Rattle.search.proofs.Placing.{begun, ended_leaf, ended_not_open, leaf_made_from, left_open_made, numbered_from}
use Rattle.search.proofs.Working.{advanced_thrice}
use Rattle.search.proofs.solving.make_node.Goals as goal

-- ---- the advisors are not asked yet

pub returns-in_err-none-clause-advisors : goal.returns-in_err-none-clause-advisors
returns-in_err-none-clause-advisors g c = only_unasked _ _ _ c.args.terms.now.allowed.rounds c.args.advisors.now.items

pub returns-in_err-outcome-clause-advisors : goal.returns-in_err-outcome-clause-advisors
returns-in_err-outcome-clause-advisors g c = only_unasked _ _ _ c.args.terms.now.allowed.rounds c.args.advisors.now.items

pub returns-in_err-work-in-Open-clause-advisors : goal.returns-in_err-work-in-Open-clause-advisors
returns-in_err-work-in-Open-clause-advisors g c = only_unasked _ _ _ c.args.terms.now.allowed.rounds c.args.advisors.now.items

pub returns-in_err-inherit-in-Open-clause-advisors : goal.returns-in_err-inherit-in-Open-clause-advisors
returns-in_err-inherit-in-Open-clause-advisors g c = only_unasked _ _ _ c.args.terms.now.allowed.rounds c.args.advisors.now.items

pub returns-in_err-improve-in-Open-clause-advisors : goal.returns-in_err-improve-in-Open-clause-advisors
returns-in_err-improve-in-Open-clause-advisors g c = only_unasked _ _ _ c.args.terms.now.allowed.rounds c.args.advisors.now.items

pub returns-in-Ended-clause-advisors : goal.returns-in-Ended-clause-advisors
returns-in-Ended-clause-advisors g c = only_unasked _ _ _ c.args.terms.now.allowed.rounds c.args.advisors.now.items

-- ---- a node that ends with its first evaluation

pub evaluate-requires-clause-region : goal.evaluate-requires-clause-region
evaluate-requires-clause-region g c = c.requires.node.sets

pub returns-in-Ended-clause-offered : goal.returns-in-Ended-clause-offered
returns-in-Ended-clause-offered g c = offered_within _ c.args.terms.now.root.now c.args.node.region _ _ c.requires.node.within c.in_ok-outcome.ensures.offered

pub returns-in-Ended-clause-leaf : goal.returns-in-Ended-clause-leaf
returns-in-Ended-clause-leaf g c =
    let problem = g.R.Relaxation.meanings (g.R.Relaxation.problem c.args.problem.now) in
    let best = plan_in c.evaluate.new.best in
    let region = c.args.node.region in
    record {
      leaf = subst (λ leaf. IsLeafOf problem best region (Fixed leaf)) (sym c.into_leaf.ensures)
          (ended_leaf problem region best c.in-Ended.ending
          (is_ending problem region c.in_ok-none.none best c.in-Ended.ending (subst (λ outcome. IsOutcome problem region c.in_ok-none.none best outcome) c.in-Ended.is c.in_ok-outcome.ensures.outcome)));
      number = tt;
      done = λ opens. absurd (ended_not_open best c.in-Ended.ending (subst (λ leaf. is_open best leaf ≡ true) c.into_leaf.ensures opens));
    }

pub returns-in-Ended-clause-made : goal.returns-in-Ended-clause-made
returns-in-Ended-clause-made g c =
    let problem = g.R.Relaxation.meanings (g.R.Relaxation.problem c.args.problem.now) in
    let best = plan_in c.evaluate.new.best in
    let region = c.args.node.region in
    record {
      middle = best;
      outcome = Ended c.in-Ended.ending;
      first = subst (λ entries. IsOutcome problem region entries best (Ended c.in-Ended.ending)) c.in_ok-none.ensures
          (subst (λ outcome. IsOutcome problem region c.in_ok-none.none best outcome) c.in-Ended.is c.in_ok-outcome.ensures.outcome);
      offered = c.in_ok-outcome.ensures.offered;
      after = (ap Fixed c.into_leaf.ensures, refl, refl);
    }

-- ---- a node that is left open

pub inherit-requires-clause-worked : goal.inherit-requires-clause-worked
inherit-requires-clause-worked g c =
    let p = g.R.Relaxation.problem c.args.problem.now in
    let problem = g.R.Relaxation.meanings p in
    let root = c.args.terms.now.root.now in
    let region = c.args.node.region in
    let first = plan_in c.evaluate.new.best in
    let work = c.in_ok-work-in-Open.work in
    let outcome = subst (λ outcome. IsOutcome problem region c.in_ok-none.none first outcome) c.in-Open.is c.in_ok-outcome.ensures.outcome in
    subst (λ q. IsWorkedOn (g.R.Relaxation.meanings q) first work) (sym c.evaluate.ensures.same)
    (subst (λ work. IsWorkedOn problem first work) (sym c.in_ok-work-in-Open.ensures)
    (begun problem region first c.in-Open.evaluation c.requires.node.sets outcome.0 (outcome.1 ∙ c.in_ok-none.ensures) outcome.2))

pub improve-requires-clause-within : goal.improve-requires-clause-within
improve-requires-clause-within g c =
    let root = c.args.terms.now.root.now in
    subst (λ sets. IsSubregion root sets) (sym c.in_ok-inherit-in-Open.ensures.advances.region)
    (subst (λ (work : Work). IsSubregion root work.region) (sym c.in_ok-work-in-Open.ensures) c.requires.node.within)

pub improve-requires-clause-worked : goal.improve-requires-clause-worked
improve-requires-clause-worked g c =
    subst (λ q. IsWorkedOn (g.R.Relaxation.meanings q) (plan_in c.inherit.new.best) c.inherit.new.self) (sym c.inherit.ensures.same) c.in_ok-inherit-in-Open.ensures.advances.worked

pub advise-requires-clause-worked : goal.advise-requires-clause-worked
advise-requires-clause-worked g c =
    subst (λ q. IsWorkedOn (g.R.Relaxation.meanings q) (plan_in c.improve.new.best) c.improve.new.work) (sym c.improve.ensures.same) c.in_ok-improve-in-Open.ensures.advances.worked

pub returns-in_ok-advise-in-Open-clause-offered : goal.returns-in_ok-advise-in-Open-clause-offered
returns-in_ok-advise-in-Open-clause-offered g c =
    let p = g.R.Relaxation.problem c.args.problem.now in
    let problem = g.R.Relaxation.meanings p in
    let root = c.args.terms.now.root.now in
    let region = c.args.node.region in
    let first = plan_in c.evaluate.new.best in
    let work = c.in_ok-work-in-Open.work in
    let outcome = subst (λ outcome. IsOutcome problem region c.in_ok-none.none first outcome) c.in-Open.is c.in_ok-outcome.ensures.outcome in
    let worked : IsWorkedOn problem first work = subst (λ work. IsWorkedOn problem first work) (sym c.in_ok-work-in-Open.ensures)
    (begun problem region first c.in-Open.evaluation c.requires.node.sets outcome.0 (outcome.1 ∙ c.in_ok-none.ensures) outcome.2) in
    let within : IsSubregion root work.region = subst (λ (work : Work). IsSubregion root work.region) (sym c.in_ok-work-in-Open.ensures) c.requires.node.within in
    let inherited : g.R.Relaxation.problem c.inherit.new.problem ≡ p = c.inherit.ensures.same ∙ c.evaluate.ensures.same in
    let improved : g.R.Relaxation.problem c.improve.new.problem ≡ p = c.improve.ensures.same ∙ inherited in
    let all : Advances problem root first (plan_in c.advise.new.best) work c.advise.new.work =
    advanced_thrice g.R.Relaxation.meanings p (g.R.Relaxation.problem c.evaluate.new.problem) (g.R.Relaxation.problem c.inherit.new.problem) (g.R.Relaxation.problem c.improve.new.problem) root
    first (plan_in c.inherit.new.best) (plan_in c.improve.new.best) (plan_in c.advise.new.best) work c.inherit.new.self c.improve.new.work c.advise.new.work
    c.evaluate.ensures.same inherited improved within worked c.in_ok-inherit-in-Open.ensures.advances c.in_ok-improve-in-Open.ensures.advances c.in_ok-advise-in-Open.ensures.advances in
    offered_again problem root (plan_in c.args.best.now) first (plan_in c.advise.new.best)
    (offered_within problem root region (plan_in c.args.best.now) first c.requires.node.within c.in_ok-outcome.ensures.offered) all.offered

pub returns-in_ok-advise-in-Open-clause-leaf : goal.returns-in_ok-advise-in-Open-clause-leaf
returns-in_ok-advise-in-Open-clause-leaf g c =
    let p = g.R.Relaxation.problem c.args.problem.now in
    let problem = g.R.Relaxation.meanings p in
    let root = c.args.terms.now.root.now in
    let region = c.args.node.region in
    let first = plan_in c.evaluate.new.best in
    let work = c.in_ok-work-in-Open.work in
    let outcome = subst (λ outcome. IsOutcome problem region c.in_ok-none.none first outcome) c.in-Open.is c.in_ok-outcome.ensures.outcome in
    let worked : IsWorkedOn problem first work = subst (λ work. IsWorkedOn problem first work) (sym c.in_ok-work-in-Open.ensures)
    (begun problem region first c.in-Open.evaluation c.requires.node.sets outcome.0 (outcome.1 ∙ c.in_ok-none.ensures) outcome.2) in
    let within : IsSubregion root work.region = subst (λ (work : Work). IsSubregion root work.region) (sym c.in_ok-work-in-Open.ensures) c.requires.node.within in
    let inherited : g.R.Relaxation.problem c.inherit.new.problem ≡ p = c.inherit.ensures.same ∙ c.evaluate.ensures.same in
    let improved : g.R.Relaxation.problem c.improve.new.problem ≡ p = c.improve.ensures.same ∙ inherited in
    let all : Advances problem root first (plan_in c.advise.new.best) work c.advise.new.work =
    advanced_thrice g.R.Relaxation.meanings p (g.R.Relaxation.problem c.evaluate.new.problem) (g.R.Relaxation.problem c.inherit.new.problem) (g.R.Relaxation.problem c.improve.new.problem) root
    first (plan_in c.inherit.new.best) (plan_in c.improve.new.best) (plan_in c.advise.new.best) work c.inherit.new.self c.improve.new.work c.advise.new.work
    c.evaluate.ensures.same inherited improved within worked c.in_ok-inherit-in-Open.ensures.advances c.in_ok-improve-in-Open.ensures.advances c.in_ok-advise-in-Open.ensures.advances in
    let best = plan_in c.advise.new.best in
    let number : ℕ = c.args.node.number in
    record {
      leaf = leaf_made_from problem best number c.advise.new.work region c.into_node.result c.into_node.ensures (all.region ∙ ap (λ (work : Work). work.region) c.in_ok-work-in-Open.ensures) all.worked;
      number = numbered_from best number c.advise.new.work c.into_node.result c.into_node.ensures;
      done = λ opens. c.in_ok-advise-in-Open.ensures.least (left_open_made best number c.advise.new.work c.into_node.result c.into_node.ensures opens);
    }

pub returns-in_ok-advise-in-Open-clause-made : goal.returns-in_ok-advise-in-Open-clause-made
returns-in_ok-advise-in-Open-clause-made g c =
    let p = g.R.Relaxation.problem c.args.problem.now in
    let problem = g.R.Relaxation.meanings p in
    let root = c.args.terms.now.root.now in
    let region = c.args.node.region in
    let first = plan_in c.evaluate.new.best in
    let work = c.in_ok-work-in-Open.work in
    let inherited = c.args.node.inherited.now in
    let second = plan_in c.inherit.new.best in
    let third = plan_in c.improve.new.best in
    let best = plan_in c.advise.new.best in
    let advisors = c.args.advisors.now.items in
    let later = c.advise.new.advisors.items in
    let with_inherited = c.inherit.new.self in
    let with_improved = c.improve.new.work in
    let same_inherited : g.R.Relaxation.problem c.inherit.new.problem ≡ p = c.inherit.ensures.same ∙ c.evaluate.ensures.same in
    let same_improved : g.R.Relaxation.problem c.improve.new.problem ≡ p = c.improve.ensures.same ∙ same_inherited in
    let improvements = c.in_ok-improve-in-Open.ensures.improved in
    let all : IsInheritedAndAdvised (λ b. (goal.Advisor-dyn g (b.vtable, b.value)).has_quit b.value) (λ b. (goal.Advisor-dyn g (b.vtable, b.value)).has_answered b.value) problem root c.args.terms.now.allowed.rounds inherited advisors later first best work c.advise.new.work = record {
      middle = second;
      with_inherited = with_inherited;
      first = subst (λ q. HasInherited (g.R.Relaxation.meanings q) first second inherited work with_inherited) c.evaluate.ensures.same c.in_ok-inherit-in-Open.ensures.inherited;
      offered = subst (λ q. IsOffered (g.R.Relaxation.meanings q) work.region first second) c.evaluate.ensures.same c.in_ok-inherit-in-Open.ensures.advances.offered;
      attempts = improvements.0;
      improved = third;
      with_improved = with_improved;
      improvements = subst (λ q. AreImproved (g.R.Relaxation.meanings q) root improvements.0 second third with_inherited with_improved) same_inherited improvements.1;
      asked = subst (λ q. AreAdvised (λ b. (goal.Advisor-dyn g (b.vtable, b.value)).has_quit b.value) (λ b. (goal.Advisor-dyn g (b.vtable, b.value)).has_answered b.value) (g.R.Relaxation.meanings q) c.args.terms.now.allowed.rounds advisors later third best with_improved c.advise.new.work) same_improved c.in_ok-advise-in-Open.ensures.advised;
    } in
    record {
      middle = first;
      outcome = Open c.in-Open.evaluation;
      first = subst (λ entries. IsOutcome problem region entries first (Open c.in-Open.evaluation)) c.in_ok-none.ensures
          (subst (λ outcome. IsOutcome problem region c.in_ok-none.none first outcome) c.in-Open.is c.in_ok-outcome.ensures.outcome);
      offered = c.in_ok-outcome.ensures.offered;
      after = (
        c.advise.new.work,
        subst (λ work. IsInheritedAndAdvised (λ b. (goal.Advisor-dyn g (b.vtable, b.value)).has_quit b.value) (λ b. (goal.Advisor-dyn g (b.vtable, b.value)).has_answered b.value) problem root c.args.terms.now.allowed.rounds inherited advisors later first best work c.advise.new.work) c.in_ok-work-in-Open.ensures all,
        c.into_node.ensures,
      );
    }
