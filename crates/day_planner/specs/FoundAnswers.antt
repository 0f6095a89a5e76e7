-- How an answer says what a search has found.
use Rattle.std.specs.Prelude.{ℕ, ◌≡◌, List, [], false, IsTrue, MatchOption}
use Rattle.timetable.specs.Day.{Day}
use Rattle.branch_tree.specs.Trees.{KeepLimits, branchings_of}
use Rattle.search.specs.declared.found.Found.{Found}
use Rattle.search.specs.Conclusions as search
use Rattle.answer_text.specs.declared.answer.Answer.{Answer}
use Rattle.answer_text.specs.Limits.{has_plan}
use Rattle.answer_check.specs.Validity.{HasPicks, conclusion_of}

-- where a plan was found, its picks are such as can be named
abbrev pub IsNameable : (List ℕ → Type 0) → Found → Type 0
IsNameable CanName found = MatchOption (search.plan_found found) (Unit {0}) (λ plan. CanName plan.picks)

-- The answer says what was found: it concludes the same, of the picks of its plan, and has the tree that was found.
pub record SaysFound (day : Day) (naming : List ℕ → List (List ℕ)) (found : Found) (answer : Answer) : Type 0 where
  pub picks : List ℕ
  pub planned : HasPicks day answer.head answer.runs picks
  -- the units of the plan, where there is one, are named by the rule
  pub named : IsTrue (has_plan answer.head) → answer.runs ≡ naming picks
  pub concludes : conclusion_of answer.head picks ≡ search.conclusion_found found
  pub branchings : answer.branchings ≡ branchings_of answer.tree
  pub tree : answer.tree ≡ search.nodes_found found
  -- runs, only where there is a plan
  pub no_runs : has_plan answer.head ≡ false → answer.runs ≡ []
  pub kept : KeepLimits answer.tree
