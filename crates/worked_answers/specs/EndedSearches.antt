-- Answers to a day under changes, in a region, where enough branchings are granted.
use Rattle.std.specs.Prelude.{ℕ, ◌+◌, ◌≡◌, ◌≤◌, List, Bool, length, None}
use Rattle.rail_base.specs.declared.limits.TheConstants.{MAX_BRANCHINGS}
use Rattle.timetable.specs.Accepted.{IsSoundDay}
use Rattle.timetable.specs.Day.{Day}
use Rattle.branch_tree.specs.Claims.{IsConcluded}
use Rattle.branch_tree.specs.Meanings.{Meanings}
use Rattle.branch_tree.specs.Regions.{IsFilled, choices_of}
use Rattle.price_bound.specs.declared.changes.Change.{Change}
use Rattle.price_bound.specs.ChangedDays.{AreChanges, changed_day, changed_meanings}
use Rattle.search.specs.declared.found.Found.{Found}
use Rattle.search.specs.Conclusions.{IsSolved}
use Rattle.answer_text.specs.declared.answer.Answer.{Answer}
use Rattle.answer_check.specs.ProvedTrees.{bound_said}
use Rattle.answer_check.specs.Validity.{conclusion_of}
use Rattle.day_planner.specs.FoundAnswers.{SaysFound}

-- an answer says no bound, so a least cost or that there is no solution, and this is so of the solutions in a region
pub record IsEnded (problem : Meanings) (region : List (List Bool)) (answer : Answer) : Type 0 where
  pub no_bound : bound_said answer.head ≡ None
  pub picks : List ℕ
  pub concluded : IsConcluded problem region (conclusion_of answer.head picks)

-- So does each answer that says what a search has found, whatever the rule of naming, where each trip has a composition
-- in the region and as many branchings are granted as the trips have choices there, less one.
abbrev pub EnoughBranchingsEnd : Type 0
EnoughBranchingsEnd = (day : Day) (changes : List Change) (region : List (List Bool))
    (naming : List ℕ → List (List ℕ)) (grant : ℕ) (found : Found) (answer : Answer)
    → IsSoundDay day → AreChanges day changes → length region ≡ length day.trips → IsFilled region
    → choices_of region ≤ grant + 1 → grant ≤ MAX_BRANCHINGS
    → IsSolved (changed_meanings (changed_day day changes)) region grant found → SaysFound day naming found answer
    → IsEnded (changed_meanings (changed_day day changes)) region answer
