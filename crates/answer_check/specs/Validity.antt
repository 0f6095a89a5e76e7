-- When an answer is valid: its plan runs, and its tree proves what it says.
use Rattle.std.specs.Prelude.{ℕ, List, Bool, IsTrue}
use Rattle.timetable.specs.Day.{Day}
use Rattle.timetable.specs.Picks.{RunsByPicks}
use Rattle.branch_tree.specs.Claims.{Conclusion, IsProved, optimal, infeasible, bounded, bounded_plan}
use Rattle.branch_tree.specs.Meanings.{Meanings}
use Rattle.branch_tree.specs.Regions.{root_of}
use Rattle.price_bound.specs.DayMeanings.{meanings_of}
use Rattle.answer_text.specs.declared.answer.Answer.{Answer}
use Rattle.rules.specs.declared.heads.Head.{Head}
use Rattle.rules.specs.declared.heads.Head.TheVariants.{Optimal, Infeasible, Bounded, BoundedPlan}
use Rattle.answer_text.specs.Limits.{has_plan}

-- what is concluded of solutions, where the plan has the compositions of these picks
abbrev pub conclusion_of : Head → List ℕ → Conclusion
conclusion_of (Optimal cost) picks = optimal (record { cost = cost.0; picks = picks })
conclusion_of Infeasible picks = infeasible
conclusion_of (Bounded bound) picks = bounded bound.0
conclusion_of (BoundedPlan bound cost) picks = bounded_plan bound.0 (record { cost = cost.0; picks = picks })

-- where an answer with this head and these runs has a plan, it runs, and these are its compositions; where it has none,
-- nothing is said of them
abbrev pub HasPicks : Day → Head → List (List ℕ) → List ℕ → Type 0
HasPicks day head runs picks = IsTrue (has_plan head) → RunsByPicks day runs picks

-- a valid answer, by a root region of a problem: its plan, where it has one, runs on the day, and its tree proves what
-- it says of all solutions in the root, of the picks of that plan
pub record IsValidIn (day : Day) (problem : Meanings) (root : List (List Bool)) (answer : Answer) : Type 0 where
  pub picks : List ℕ
  pub planned : HasPicks day answer.head answer.runs picks
  pub proved : IsProved problem root (conclusion_of answer.head picks) answer.branchings answer.tree

-- a valid answer to the day, by the region of all admissible compositions
abbrev pub IsValid : Day → Answer → Type 0
IsValid day = IsValidIn day (meanings_of day) (root_of day)
