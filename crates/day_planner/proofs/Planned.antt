-- An answer that says what a search has found has a tree that proves it.
use Rattle.std.proofs.Common.{◌≡◌, ℕ, ◌+◌, ◌*◌, ◌≤◌, List, [], ◌∷◌, length, Bool, true, false, refl, sym, ◌∙◌, ap}
use Rattle.std.proofs.Common.{subst, arith, Option, Some, None}
use Rattle.std.specs.Prelude.{All, IsSome}
use Rattle.std.proofs.lemmas.List.Elements.{All-cons, All-contains, All-nil}
use Rattle.rail_base.specs.declared.limits.TheConstants.{MAX_BRANCHINGS, MAX_NODES, MAX_TRIPS}
use Rattle.timetable.specs.Day.{Day}
use Rattle.timetable.specs.Picks.{RunsByPicks}
use Rattle.branch_tree.specs.declared.tree.Node.{Node}
use Rattle.branch_tree.specs.Claims.{Conclusion, CostedPicks, concluded_plan, EndsInTime, HasOpenLeaf, IsPlanIn, IsProved}
use Rattle.branch_tree.specs.Meanings.{Meanings}
use Rattle.branch_tree.specs.Trees.{branchings_of, bounds_of}
use Rattle.branch_tree.proofs.Concluding.{proved_is_concluded}
use Rattle.branch_tree.proofs.Covering.{leaves_exceed_branches}
use Rattle.branch_tree.proofs.Walking.{proved_at}
use Rattle.search.specs.declared.found.Found.{Found}
use Rattle.search.specs.declared.found.Found.TheVariants as found
use Rattle.search.specs.Conclusions.{IsBounded, IsSolved, nodes_found, plan_found}
use Rattle.search.specs.Conclusions as search
use Rattle.answer_text.specs.declared.answer.Answer.{Answer}
use Rattle.rules.specs.declared.heads.Head.{Head}
use Rattle.rules.specs.declared.heads.Head.TheVariants.{Optimal, Infeasible, Bounded, BoundedPlan}
use Rattle.answer_text.specs.Limits.{IsAmount, IsHead, IsNode, IsRun, IsAnswerWithin, has_plan}
use Rattle.answer_check.specs.ProvedTrees.{HasProvedTreeIn, bound_said, plan_said}
use Rattle.answer_check.specs.Validity.{conclusion_of}
use Rattle.day_planner.specs.Answerable.{IsAnswerable}
use Rattle.day_planner.specs.FoundAnswers.{SaysFound}
use Rattle.day_planner.specs.Laws.{SaidAnswersAreProved}
use Rattle.day_planner.proofs.Granting.{enough_leave_none_open}
use Rattle.day_planner.proofs.Leaves.{bounds_within, cost_within, nodes_within}
use Rattle.day_planner.proofs.NamedRuns.{few_runs, runs_within}

-- a head with a bound says what was found with a bound
bound_found : (head : Head) (picks : List ℕ) (found : Found) → conclusion_of head picks ≡ search.conclusion_found found
    → IsSome (bound_said head) → IsBounded found
bound_found head picks (found.Bounded best bound tree) same some = tt
bound_found (Optimal cost) picks (found.Optimal others least tree) same some = absurd cc
bound_found (Optimal cost) picks (found.Infeasible tree) same some = absurd cc
bound_found Infeasible picks (found.Optimal others least tree) same some = absurd cc
bound_found Infeasible picks (found.Infeasible tree) same some = absurd cc
bound_found (Bounded bound) picks (found.Optimal others least tree) same some = absurd cc
bound_found (Bounded bound) picks (found.Infeasible tree) same some = absurd cc
bound_found (BoundedPlan bound cost) picks (found.Optimal others least tree) same some = absurd cc
bound_found (BoundedPlan bound cost) picks (found.Infeasible tree) same some = absurd cc

-- what was found with a bound is said by a head with a bound
bound_of_found : (head : Head) (picks : List ℕ) (found : Found) → conclusion_of head picks ≡ search.conclusion_found found
    → IsBounded found → IsSome (bound_said head)
bound_of_found head picks (found.Optimal others least tree) same is = absurd is
bound_of_found head picks (found.Infeasible tree) same is = absurd is
bound_of_found (Bounded bound) picks (found.Bounded best least tree) same is = refl
bound_of_found (BoundedPlan bound cost) picks (found.Bounded best least tree) same is = refl
bound_of_found (Optimal cost) picks (found.Bounded None least tree) same is = absurd cc
bound_of_found (Optimal cost) picks (found.Bounded (Some best) least tree) same is = absurd cc
bound_of_found Infeasible picks (found.Bounded None least tree) same is = absurd cc
bound_of_found Infeasible picks (found.Bounded (Some best) least tree) same is = absurd cc

-- a head with no bound has none
no_bound : (head : Head) → ¬ IsSome (bound_said head) → bound_said head ≡ None
no_bound (Optimal cost) none = refl
no_bound Infeasible none = refl
no_bound (Bounded bound) none = absurd (none refl)
no_bound (BoundedPlan bound cost) none = absurd (none refl)

module _ (day : Day) (problem : Meanings) (root : List (List Bool)) (is : IsAnswerable day problem root) where
  -- the picks of a plan that was found follow
  follows : (picks : List ℕ) (plan : CostedPicks) → plan.picks ≡ picks → IsPlanIn problem root plan → problem.Follow picks
  follows picks plan same inside =
      subst problem.Follow same (is.relaxation.near_follow plan.picks root
      (is.relaxation.solution_near plan.picks root inside.solution inside.inside))

  -- what a proved head says is within the limits
  head_within : (head : Head) (picks : List ℕ) (branchings : ℕ) (nodes : List Node)
      → IsProved problem root (conclusion_of head picks) branchings nodes
      → All IsAmount (bounds_of nodes) → IsHead head
  head_within (Optimal cost) picks branchings nodes proved amounts =
      cost_within day problem root is picks cost.0
      (follows picks (record { cost = cost.0; picks = picks }) refl proved.plan) proved.plan.cost
  head_within Infeasible picks branchings nodes proved amounts = tt
  head_within (Bounded bound) picks branchings nodes proved amounts =
      All-contains IsAmount (bounds_of nodes) bound.0 amounts proved.head.one
  head_within (BoundedPlan bound cost) picks branchings nodes proved amounts = (
    All-contains IsAmount (bounds_of nodes) bound.0 amounts proved.head.one,
    cost_within day problem root is picks cost.0
        (follows picks (record { cost = cost.0; picks = picks }) refl proved.plan) proved.plan.cost,
  )

  module _ (naming : List ℕ → List (List ℕ)) (found : Found) (answer : Answer)
      (says : SaysFound day naming found answer) where
    -- the branchings that are said are those that were made
    said_branchings : answer.branchings ≡ branchings_of (nodes_found found)
    said_branchings = says.branchings ∙ ap branchings_of says.tree

    -- the tree that was found proves what the answer says
    proves : (granted : ℕ) → IsSolved problem root granted found
        → IsProved problem root (conclusion_of answer.head says.picks) answer.branchings answer.tree
    proves granted solved =
        subst (λ (c : Conclusion). IsProved problem root c answer.branchings answer.tree) (sym says.concludes)
        (subst (λ (nodes : List Node). IsProved problem root (search.conclusion_found found) answer.branchings nodes)
        (sym says.tree)
        (subst (λ (n : ℕ). IsProved problem root (search.conclusion_found found) n (nodes_found found))
        (sym said_branchings) solved.proved))

    -- the runs are within the limits
    runs_are : (planned : Bool) → has_plan answer.head ≡ planned
        → All IsRun answer.runs × (length answer.runs ≤ MAX_TRIPS)
    runs_are true some =
        let plan : RunsByPicks day answer.runs says.picks = says.planned some in
        (runs_within day is.limits answer.runs plan.runs, few_runs day is.limits answer.runs plan.runs)
    runs_are false none = (
      subst (All IsRun) (sym (says.no_runs none)) (All-nil IsRun),
      subst (λ (runs : List (List ℕ)). length runs ≤ MAX_TRIPS) (sym (says.no_runs none)) (omega arith),
    )

    -- the answer is within the limits of its text
    is_within : (granted : ℕ) → granted ≤ MAX_BRANCHINGS → IsSolved problem root granted found
        → IsAnswerWithin MAX_NODES answer
    is_within granted few solved =
        let proved : IsProved problem root (conclusion_of answer.head says.picks) answer.branchings answer.tree =
        proves granted solved in
        let nodes : All IsNode answer.tree =
        nodes_within day problem root is (root ∷ []) answer.tree
        (All-cons (λ region. length region ≡ problem.trips) root [] is.sets
        (All-nil (λ region. length region ≡ problem.trips)))
        (proved_at problem (root ∷ []) answer.tree proved.proper proved.fitting proved.bounds proved.rays proved.empty)
        says.kept in
        let runs = runs_are (has_plan answer.head) refl in
        let size : length answer.tree ≡ 2 * branchings_of answer.tree + 1 =
        leaves_exceed_branches answer.tree proved.whole.0 in
        record {
          head = head_within answer.head says.picks answer.branchings answer.tree proved
              (bounds_within answer.tree nodes);
          branchings = omega (arith, said_branchings, solved.granted, few);
          planned = says.no_runs;
          few_runs = runs.1;
          runs = runs.0;
          some = omega (arith, size);
          few_nodes = omega (arith, size, says.branchings, said_branchings, solved.granted, few);
          nodes = nodes;
        }

    -- all is so that is said of the tree
    says_proved : (granted : ℕ) → granted ≤ MAX_BRANCHINGS → IsSolved problem root granted found
        → HasProvedTreeIn day problem root naming granted answer
    says_proved granted few solved =
        let plan : plan_found found ≡ plan_said answer says.picks = ap concluded_plan (sym says.concludes) in
        let in_time : EndsInTime problem root (plan_said answer says.picks) answer.tree =
        subst (λ (nodes : List Node). EndsInTime problem root (plan_said answer says.picks) nodes) (sym says.tree)
        (subst (λ (p : Option CostedPicks). EndsInTime problem root p (nodes_found found)) plan solved.in_time) in
        let bound : IsBounded found → IsSome (bound_said answer.head) =
        bound_of_found answer.head says.picks found says.concludes in
        let as_said : IsSome (bound_said answer.head)
        → (branchings_of answer.tree ≡ granted) × HasOpenLeaf (plan_said answer says.picks) answer.tree =
        λ some.
        let both = solved.bounded.0 (bound_found answer.head says.picks found says.concludes some) in (
          ap branchings_of says.tree ∙ both.0,
          subst (λ (nodes : List Node). HasOpenLeaf (plan_said answer says.picks) nodes) (sym says.tree)
              (subst (λ (p : Option CostedPicks). HasOpenLeaf p (nodes_found found)) plan both.1),
        ) in
        let as_found : (branchings_of answer.tree ≡ granted) × HasOpenLeaf (plan_said answer says.picks) answer.tree
        → IsBounded found =
        λ both. solved.bounded.1 (
          ap branchings_of (sym says.tree) ∙ both.0,
          subst (λ (p : Option CostedPicks). HasOpenLeaf p (nodes_found found)) (sym plan)
              (subst (λ (nodes : List Node). HasOpenLeaf (plan_said answer says.picks) nodes) says.tree both.1),
        ) in
        record {
          valid = record { picks = says.picks; planned = says.planned; proved = proves granted solved };
          concluded = proved_is_concluded problem is.relaxation root (conclusion_of answer.head says.picks)
              answer.branchings answer.tree (proves granted solved);
          named = says.named;
          branchings = says.branchings;
          granted = subst (λ (nodes : List Node). branchings_of nodes ≤ granted) (sym says.tree) solved.granted;
          bounded = (as_said, λ both. bound (as_found both));
          enough = λ many. no_bound answer.head (λ some. enough_leave_none_open problem is.relaxation root is.filled
              (plan_said answer says.picks) answer.tree (proves granted solved).proper in_time
              (omega (arith, many, (as_said some).0)) (as_said some).1);
          evident = in_time;
          within = is_within granted few solved;
        }

pub said_answers_are_proved : (problem : Meanings) → SaidAnswersAreProved problem
said_answers_are_proved problem day root naming granted found answer is few solved says =
    says_proved day problem root is naming found answer says granted few solved
