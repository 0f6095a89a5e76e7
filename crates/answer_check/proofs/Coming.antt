-- No verdict on an answer says that an event is out of turn, or that the picks of a plan fail.
use Rattle.std.proofs.Common.{◌≡◌, ℕ, suc, List, [], ◌∷◌, ◌++◌, Bool, IsTrue, Ok, Err, inl, inr, refl, sym, subst, ℤ}
use Rattle.std.specs.Prelude.{⊤, Result, IfOk}
use Rattle.rail_base.specs.declared.memory.NoMemory.{NoMemory}
use Rattle.rail_base.specs.declared.numbers.Money.{Money}
use Rattle.timetable.specs.Accepted.{IsSoundDay}
use Rattle.timetable.specs.Day.{Day}
use Rattle.timetable.specs.Picks.{IsSolution, RunsByPicks}
use Rattle.branch_tree.specs.declared.claims.Claim.{Claim}
use Rattle.branch_tree.specs.declared.tree.Node.{Node}
use Rattle.branch_tree.specs.declared.tree.Node.TheVariants.{Branch, CostLeaf, RayLeaf, EmptyLeaf}
use Rattle.branch_tree.specs.Claims.{Conclusion, optimal, infeasible, bounded, bounded_plan, concluded_plan, said_by}
use Rattle.branch_tree.specs.Meanings.{Meanings}
use Rattle.branch_tree.specs.Regions.{root_of}
use Rattle.branch_tree.specs.Trees.{cut_of, nodes_in}
use Rattle.branch_tree.proofs.Roots.{solutions_lie_in_roots}
use Rattle.cert_check.specs.declared.verdict.Reason.{Reason}
use Rattle.cert_check.specs.declared.verdict.Reason.TheVariants.{PicksFail}
use Rattle.cert_check.specs.Reasons.{DoPicksFail, HasOtherLeast, IsBelowCost, IsLeft}
use Rattle.cert_check.specs.Reasons.{claim_tests, head_tests, leaf_tests, node_tests, plan_tests, tests_from}
use Rattle.cert_check.specs.Tests.{Test, FirstFails}
use Rattle.day_simulator.specs.declared.events.StepFault.{StepFault}
use Rattle.day_simulator.specs.Laws.{IsInTurn}
use Rattle.day_simulator.proofs.InTurn.{in_turn}
use Rattle.price_bound.specs.DayMeanings.{meanings_of}
use Rattle.price_bound.proofs.Solving.{solution_follows}
use Rattle.answer_text.specs.declared.answer.Answer.{Answer}
use Rattle.rules.specs.declared.heads.Head.{Head}
use Rattle.rules.specs.declared.heads.Head.TheVariants.{Optimal, Infeasible, Bounded, BoundedPlan}
use Rattle.answer_text.specs.Limits.{has_plan}
use Rattle.answer_check.specs.declared.answered_plan.RunsRefusal.{RunsRefusal}
use Rattle.answer_check.specs.declared.answered_plan.RunsRefusal.TheVariants as runs_refusal
use Rattle.answer_check.specs.declared.checking.AnswerVerdict.{AnswerVerdict}
use Rattle.answer_check.specs.declared.checking.AnswerVerdict.TheVariants as verdict
use Rattle.answer_check.specs.Validity.{conclusion_of}
use Rattle.answer_check.specs.Verdicts.{CanCome, IsAnswerVerdict, IsPicksRefusal, IsRefuted, VerdictOf}

-- ---- tests that are failed for other reasons

abbrev IsOther : Test → Type 0
IsOther test = ¬ test PicksFail

abbrev AreOther : List Test → Type 0
AreOther [] = ⊤
AreOther (test ∷ tests) = IsOther test × AreOther tests

never_first : (tests : List Test) → AreOther tests → FirstFails tests PicksFail → ⊥
never_first [] are first = first
never_first (test ∷ tests) are first = elim first [
  | inl here ↦ are.0 here
  | inr later ↦ never_first tests are.1 later.1
]

are_other-append : (tests more : List Test) → AreOther tests → AreOther more → AreOther (tests ++ more)
are_other-append [] more are rest = rest
are_other-append (test ∷ tests) more are rest = (are.0, are_other-append tests more are.1 rest)

other_at : (problem : Meanings) (number : ℕ) (region : List (List Bool)) (node : Node)
    → AreOther (node_tests problem number region node)
other_at problem number region (Branch cut) = ((λ (is, wrong). absurd cc), tt)
other_at problem number region (CostLeaf bound multipliers) =
    ((λ (is, wrong). absurd cc), ((λ (found, is, at, wrong). absurd cc), tt))
other_at problem number region (RayLeaf multipliers) =
    ((λ (is, wrong). absurd cc), ((λ (found, is, at, wrong). absurd cc), tt))
other_at problem number region EmptyLeaf = ((λ (is, wrong). absurd cc), tt)

other_from : (problem : Meanings) (number : ℕ) (placed : List (List (List Bool) × Node))
    → AreOther (tests_from problem number placed)
other_from problem number [] = tt
other_from problem number (at ∷ rest) =
    are_other-append (node_tests problem number at.0 at.1) (tests_from problem (suc number) rest)
    (other_at problem number at.0 at.1) (other_from problem (suc number) rest)

other_leaf : (test : ℕ → Money → Test) → ((number : ℕ) (bound : Money) → IsOther (test number bound))
    → (number : ℕ) (nodes : List Node) → AreOther (leaf_tests test number nodes)
other_leaf test are number [] = tt
other_leaf test are number (Branch cut ∷ nodes) = other_leaf test are (suc number) nodes
other_leaf test are number (CostLeaf bound multipliers ∷ nodes) =
    (are number bound, other_leaf test are (suc number) nodes)
other_leaf test are number (RayLeaf multipliers ∷ nodes) = other_leaf test are (suc number) nodes
other_leaf test are number (EmptyLeaf ∷ nodes) = other_leaf test are (suc number) nodes

other_least : (bound : ℤ) (nodes : List Node) → AreOther (HasOtherLeast bound nodes ∷ [])
other_least bound nodes = ((λ (found, is, at, wrong). absurd cc), tt)

other_head : (conclusion : Conclusion) (nodes : List Node) → AreOther (head_tests conclusion nodes)
other_head (optimal plan) nodes =
    other_leaf (IsBelowCost plan.cost) (λ number bound (is, wrong). absurd cc) 0 nodes
other_head infeasible nodes = other_leaf IsLeft (λ number bound is. absurd cc) 0 nodes
other_head (bounded bound) nodes = other_least bound nodes
other_head (bounded_plan bound plan) nodes = other_least bound nodes

other_claim : (problem : Meanings) (root : List (List Bool)) (claim : Claim)
    → AreOther (plan_tests problem root (concluded_plan (said_by claim.head))) → AreOther (claim_tests problem root claim)
other_claim problem root claim plan =
    let said = said_by claim.head in (
      (λ (node, is, wrong). absurd cc),
      (
        (λ (is, wrong). absurd cc),
        are_other-append (tests_from problem 0 (nodes_in cut_of problem.catalogue (root ∷ []) claim.tree.now))
            (plan_tests problem root (concluded_plan said) ++ head_tests said claim.tree.now)
            (other_from problem 0 (nodes_in cut_of problem.catalogue (root ∷ []) claim.tree.now))
            (are_other-append (plan_tests problem root (concluded_plan said)) (head_tests said claim.tree.now) plan
            (other_head said claim.tree.now)),
      ),
    )

-- ---- verdicts on answers to a day

module _ (day : Day) (accepted : IsSoundDay day) where
  -- the picks of a plan that runs don't fail
  picks_hold : (runs : List (List ℕ)) (picks : List ℕ) (cost : ℤ) → RunsByPicks day runs picks
      → DoPicksFail (meanings_of day) (root_of day) (record { cost = cost; picks = picks }) PicksFail → ⊥
  picks_hold runs picks cost planned fails =
      let solves : IsSolution day picks =
      record { are_picks = planned.are_picks; plan = runs; runs = planned.runs; types = sym planned.types } in
      elim fails.1 [
        | inl outside ↦ outside (solutions_lie_in_roots day picks accepted solves)
        | inr rest ↦ elim rest [
          | inl apart ↦ apart (solution_follows day picks accepted.links solves)
          | inr none ↦ none solves
        ]
      ]

  other_plan : (head : Head) (runs : List (List ℕ)) (picks : List ℕ)
      → (IsTrue (has_plan head) → RunsByPicks day runs picks)
      → AreOther (plan_tests (meanings_of day) (root_of day) (concluded_plan (conclusion_of head picks)))
  other_plan (Optimal cost) runs picks planned =
      (picks_hold runs picks cost.0 (planned refl), ((λ (is, wrong). absurd cc), tt))
  other_plan Infeasible runs picks planned = tt
  other_plan (Bounded bound) runs picks planned = tt
  other_plan (BoundedPlan bound cost) runs picks planned =
      (picks_hold runs picks cost.0 (planned refl), ((λ (is, wrong). absurd cc), tt))

  module _ (answer : Answer) where
    picks_pass : IsRefuted day answer PicksFail → ⊥
    picks_pass against =
        let is = against.is_claim in
        never_first (claim_tests (meanings_of day) (root_of day) against.claim)
        (other_claim (meanings_of day) (root_of day) against.claim
        (subst (λ (c : Conclusion). AreOther (plan_tests (meanings_of day) (root_of day) (concluded_plan c))) (sym is.head)
        (other_plan answer.head answer.runs is.picks is.planned))) against.verdict.1

    can_come : (found : AnswerVerdict) → IsAnswerVerdict day answer found → CanCome found
    can_come verdict.Valid right = record { in_turn = λ fault is. absurd cc; picks = λ is. absurd cc }
    can_come (verdict.RunsDiffer said there) right =
        record { in_turn = λ fault is. absurd cc; picks = λ is. absurd cc }
    can_come (verdict.UnknownUnit trip) right = record { in_turn = λ fault is. absurd cc; picks = λ is. absurd cc }
    can_come (verdict.Stops stopped) right = record {
      in_turn = λ fault is. subst IsInTurn (same fault is)
          (in_turn day answer.runs accepted.limits accepted.links stopped right.1.fault_is);
      picks = λ is. absurd cc;
    }
      where
        same : (fault : StepFault) → verdict.Stops stopped ≡ verdict.Stops fault → stopped ≡ fault
        same fault is = cc
    can_come (verdict.Claim reason) right = record {
      in_turn = λ fault is. absurd cc;
      picks = λ is. picks_pass (subst (λ (r : Reason). IsRefuted day answer r) (same is) right);
    }
      where
        same : verdict.Claim reason ≡ verdict.Claim PicksFail → reason ≡ PicksFail
        same is = cc

    -- so it is of what a check answers
    pub all_can_come : (result : Result AnswerVerdict NoMemory) → IfOk result (IsAnswerVerdict day answer)
        → IfOk result CanCome
    all_can_come (Ok found) right = can_come found right
    all_can_come (Err error) right = tt

    -- and where the runs are no plan that runs
    pub refused_can_come : (refusal : RunsRefusal) (result : Result AnswerVerdict NoMemory)
        → IsPicksRefusal day answer refusal → VerdictOf refusal result → IfOk result CanCome
    refused_can_come (runs_refusal.Differ said found) result wrong is =
        subst (λ (r : Result AnswerVerdict NoMemory). IfOk r CanCome) (sym is)
        (can_come (verdict.RunsDiffer said found) wrong)
    refused_can_come (runs_refusal.UnknownUnit trip) result wrong is =
        subst (λ (r : Result AnswerVerdict NoMemory). IfOk r CanCome) (sym is)
        (can_come (verdict.UnknownUnit trip) (wrong.0, wrong.1.0, wrong.1.1))
    refused_can_come (runs_refusal.Stops fault) result wrong is =
        subst (λ (r : Result AnswerVerdict NoMemory). IfOk r CanCome) (sym is) (can_come (verdict.Stops fault) wrong)
    refused_can_come runs_refusal.NoMemory (Ok found) wrong is = absurd cc
    refused_can_come runs_refusal.NoMemory (Err error) wrong is = tt
