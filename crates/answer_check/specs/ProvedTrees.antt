-- What is said of the tree of an answer that a search found: that it proves the answer, and that the search ended
-- neither too early nor too late.
use Rattle.std.specs.Prelude.{ℕ, ◌+◌, ◌≤◌, ◌≡◌, ◌↔◌, List, [], Bool, ℤ, Option, Some, None, IsSome, IsTrue}
use Rattle.rail_base.specs.declared.limits.TheConstants.{MAX_NODES}
use Rattle.inventory.specs.NamedUnits.{named_plan}
use Rattle.timetable.specs.Day.{Day}
use Rattle.timetable.specs.Picks.{picked}
use Rattle.branch_tree.specs.Claims.{EndsInTime, HasOpenLeaf, IsConcluded, CostedPicks, open_leaves_of, concluded_plan}
use Rattle.branch_tree.specs.Meanings.{Meanings}
use Rattle.branch_tree.specs.Regions.{choices_of, root_of}
use Rattle.branch_tree.specs.Trees.{branchings_of}
use Rattle.price_bound.specs.DayMeanings.{meanings_of}
use Rattle.answer_text.specs.declared.answer.Answer.{Answer}
use Rattle.rules.specs.declared.heads.Head.{Head}
use Rattle.rules.specs.declared.heads.Head.TheVariants.{Optimal, Infeasible, Bounded, BoundedPlan}
use Rattle.answer_text.specs.Limits.{IsAnswerWithin, has_plan}
use Rattle.answer_check.specs.Validity.{IsValidIn, conclusion_of}

-- the bound that a head says
abbrev pub bound_said : Head → Option ℤ
bound_said (Optimal cost) = None
bound_said Infeasible = None
bound_said (Bounded bound) = Some bound.0
bound_said (BoundedPlan bound cost) = Some bound.0

-- the plan of an answer, where it has one, by these picks
abbrev pub plan_said : Answer → List ℕ → Option CostedPicks
plan_said answer picks = concluded_plan (conclusion_of answer.head picks)

-- how many leaves of the tree of an answer are open, by the cost that it says: no picks have a part in that
abbrev pub open_leaves : Answer → ℕ
open_leaves answer = open_leaves_of (plan_said answer []) answer.tree

-- What is said of the tree of an answer that was searched for in a root region of a problem, where the units of the day
-- are named by a rule and so many branchings are granted.
pub record HasProvedTreeIn (day : Day) (problem : Meanings) (root : List (List Bool)) (naming : List ℕ → List (List ℕ))
    (grant : ℕ) (answer : Answer) : Type 0 where
  -- the tree proves what the head says
  pub valid : IsValidIn day problem root answer
  -- so what the head says is true of all solutions in the root
  pub concluded : IsConcluded problem root (conclusion_of answer.head valid.picks)
  -- the units of the plan, where the answer has one, are named by the rule
  pub named : IsTrue (has_plan answer.head) → answer.runs ≡ naming valid.picks
  -- the branchings that are said are those of the tree
  pub branchings : answer.branchings ≡ branchings_of answer.tree
  -- no more branchings were made than were granted
  pub granted : branchings_of answer.tree ≤ grant
  -- it is `bounded` exactly where all that were granted are made, and a leaf is open
  pub bounded : IsSome (bound_said answer.head)
      ↔ ((branchings_of answer.tree ≡ grant) × HasOpenLeaf (plan_said answer valid.picks) answer.tree)
  -- `bounded` never comes where as many branchings are granted as the trips have choices of compositions, less one
  pub enough : choices_of root ≤ grant + 1 → bound_said answer.head ≡ None
  -- no bound is below the one without multipliers; what the bound of a leaf finds is a solution only where the answer
  -- has a plan that costs no more, by the costs of the problem; and no open leaf has an evident end
  pub evident : EndsInTime problem root (plan_said answer valid.picks) answer.tree
  -- its text can be read again
  pub within : IsAnswerWithin MAX_NODES answer

-- the units of the plan with these picks, named by the rule of the day
abbrev pub named_for : Day → List ℕ → List (List ℕ)
named_for day picks = named_plan day (picked day picks)

-- of the day itself, with all admissible compositions and its rule of naming
abbrev pub HasProvedTree : Day → ℕ → Answer → Type 0
HasProvedTree day = HasProvedTreeIn day (meanings_of day) (root_of day) (named_for day)
