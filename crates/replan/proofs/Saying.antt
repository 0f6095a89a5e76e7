-- What a proved answer to the later day promises of the disturbed day.
use Rattle.std.proofs.Common.{◌≡◌, ℕ, ◌+◌, List, [], Bool, true, Option, Some, None, refl, sym, ap, subst, ◌∙◌, ℤ, pos, ◌≤ℤ◌}
use Rattle.std.specs.Prelude.{IfSome, is_some, unwrap_or}
use Rattle.timetable.specs.Cost.{cost_of}
use Rattle.timetable.specs.Picks.{RunsByPicks}
use Rattle.timetable.specs.Running.{Runs}
use Rattle.branch_tree.specs.Claims.{CostsAtLeast, HasNoSolution, IsConcluded, IsPlanIn}
use Rattle.branch_tree.specs.Meanings.{Meanings}
use Rattle.price_bound.specs.ChangedDays.{added_cost, changed_day, changed_meanings}
use Rattle.price_bound.proofs.ChangedPlans.{changed_solutions_bound_plans, no_changed_solutions_no_plans}
use Rattle.rules.specs.declared.heads.Head.{Head}
use Rattle.rules.specs.declared.heads.Head.TheVariants.{Optimal, Infeasible, Bounded, BoundedPlan}
use Rattle.answer_text.specs.Limits.{has_plan}
use Rattle.answer_check.specs.ProvedTrees.{bound_said}
use Rattle.answer_check.specs.Validity.{conclusion_of}
use Rattle.replan.specs.declared.replanning.Replanned.{Replanned}
use Rattle.replan.specs.Disturbances.{AgreesWithPast, Disturbed, GoesOn, NoneGoesOn, PricesAreAtLeast, later_day, price_of}
use Rattle.replan.specs.Laws.{IsUnderWay, KeepsPast}
use Rattle.replan.specs.Promises.{HasProvedTree, IsReplanned, as_answer, changes_made, price_said}
use Rattle.replan.specs.RestsOfDays.{changes_of, named_on, past_root}
use Rattle.replan.proofs.GoingOn.{going_on_lies_in_root}
use Rattle.replan.proofs.PastsKept.{keeps_past}
use Rattle.replan.proofs.Prices.{prices_are_changed_costs}

-- the plan that a head says, in what is concluded
record PlanSaid (problem : Meanings) (root : List (List Bool)) (head : Head) (picks : List ℕ) : Type 0 where
  price : ℤ
  said : price_said head ≡ Some price
  plan : IsPlanIn problem root (record { cost = price; picks = picks })

plan_of_head : (problem : Meanings) (root : List (List Bool)) (head : Head) (picks : List ℕ) → has_plan head ≡ true
    → IsConcluded problem root (conclusion_of head picks) → PlanSaid problem root head picks
plan_of_head problem root (Optimal price) picks has concluded = record { price = price.0; said = refl; plan = concluded.0 }
plan_of_head problem root Infeasible picks has concluded = absurd cc
plan_of_head problem root (Bounded bound) picks has concluded = absurd cc
plan_of_head problem root (BoundedPlan bound price) picks has concluded = record { price = price.0; said = refl; plan = concluded.0 }

bound_of_head : (problem : Meanings) (root : List (List Bool)) (head : Head) (picks : List ℕ) (bound : ℤ) → bound_said head ≡ Some bound
    → IsConcluded problem root (conclusion_of head picks) → CostsAtLeast problem root bound
bound_of_head problem root (Optimal price) picks bound said concluded = absurd cc
bound_of_head problem root Infeasible picks bound said concluded = absurd cc
bound_of_head problem root (Bounded least) picks bound said concluded =
    let same : least.0 ≡ bound = cc in subst (CostsAtLeast problem root) same concluded
bound_of_head problem root (BoundedPlan least price) picks bound said concluded =
    let same : least.0 ≡ bound = cc in subst (CostsAtLeast problem root) same concluded.1

module _ (disturbed : Disturbed) (way : IsUnderWay disturbed) where
  abbrev problem : Meanings
  problem = changed_meanings (changed_day (later_day disturbed) (changes_of disturbed))

  abbrev root : List (List Bool)
  root = past_root disturbed

  -- what is so of all solutions is so of all plans that go on from the past
  prices_at_least : (bound : ℤ) → CostsAtLeast problem root bound → PricesAreAtLeast disturbed bound
  prices_at_least bound all plan goes_on =
      let some = going_on_lies_in_root disturbed plan way goes_on in
      subst (λ (n : ℕ). bound ≤ℤ pos n) (sym (prices_are_changed_costs disturbed plan some.0 way some.1.by_picks))
      ((changed_solutions_bound_plans (later_day disturbed) (changes_of disturbed) root bound).0 all plan some.0 some.1)

  none_goes_on : HasNoSolution problem root → NoneGoesOn disturbed
  none_goes_on none plan goes_on =
      let some = going_on_lies_in_root disturbed plan way goes_on in
      (no_changed_solutions_no_plans (later_day disturbed) (changes_of disturbed) root).0 none plan some.0 some.1

  module _ (grant : ℕ) (replanned : Replanned) (there : is_some replanned.plan ≡ has_plan replanned.head)
      (tree : HasProvedTree disturbed grant (as_answer replanned)) where
    abbrev picks : List ℕ
    picks = tree.valid.picks

    -- a plan that is there is the one that the rule names for its picks
    record IsPlanned (plan : List (List ℕ)) : Type 0 where
      goes_on : GoesOn disturbed plan
      price : price_said replanned.head ≡ Some (pos (price_of disturbed plan))

    planned : (plan : List (List ℕ)) → replanned.plan ≡ Some plan → IsPlanned plan
    planned plan is =
        let has : has_plan replanned.head ≡ true = sym there ∙ ap (λ (o : Option (List (List ℕ))). is_some o) is in
        let said : PlanSaid problem root replanned.head picks = plan_of_head problem root replanned.head picks has tree.concluded in
        let runs_are : plan ≡ named_on disturbed picks = sym (ap (λ (o : Option (List (List ℕ))). unwrap_or o []) is) ∙ tree.named has in
        let keeps : KeepsPast disturbed picks = keeps_past disturbed way picks said.plan.solution said.plan.inside in
        let by : RunsByPicks (later_day disturbed) plan picks =
        subst (λ (p : List (List ℕ)). RunsByPicks (later_day disturbed) p picks) (sym runs_are) keeps.by_picks in
        record {
          goes_on = subst (GoesOn disturbed) (sym runs_are) keeps.goes_on;
          price = said.said ∙ ap (λ (n : ℤ). Some n) (sym said.plan.cost
              ∙ ap (λ (lists : List (List ℕ)). pos (cost_of (later_day disturbed) lists + added_cost (changes_of disturbed) picks)) by.types
              ∙ ap pos (sym (prices_are_changed_costs disturbed plan picks way by)));
        }

    some_holds : (P : List (List ℕ) → Type 0) (o : Option (List (List ℕ))) → ((plan : List (List ℕ)) → o ≡ Some plan → P plan) → IfSome o P
    some_holds P None each = tt
    some_holds P (Some plan) each = each plan refl

    pub is_replanned : replanned.changes ≡ changes_made disturbed replanned.plan → IsReplanned disturbed grant replanned
    is_replanned changes = record {
      there = there;
      runs = some_holds (Runs (later_day disturbed)) replanned.plan (λ plan is. (planned plan is).goes_on.runs);
      agrees = some_holds (AgreesWithPast disturbed) replanned.plan (λ plan is. (planned plan is).goes_on.agrees);
      price = some_holds (λ plan. price_said replanned.head ≡ Some (pos (price_of disturbed plan))) replanned.plan (λ plan is. (planned plan is).price);
      changes = changes;
      optimal = λ price is.
          prices_at_least price.0 (subst (λ (head : Head). IsConcluded problem root (conclusion_of head picks)) is tree.concluded).1;
      infeasible = λ is. none_goes_on (subst (λ (head : Head). IsConcluded problem root (conclusion_of head picks)) is tree.concluded);
      bounded = λ bound said. prices_at_least bound (bound_of_head problem root replanned.head picks bound said tree.concluded);
      tree = tree;
    }
