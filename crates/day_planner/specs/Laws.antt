-- What holds of answers that say what a search has found.
use Rattle.std.specs.Prelude.{ℕ, ◌≡◌, ◌≤◌, List, Bool, length}
use Rattle.rail_base.specs.declared.limits.TheConstants.{MAX_BRANCHINGS}
use Rattle.timetable.specs.Accepted.{IsSoundDay}
use Rattle.timetable.specs.Day.{Day}
use Rattle.branch_tree.specs.Meanings.{Meanings}
use Rattle.branch_tree.specs.Regions.{IsFilled, root_of}
use Rattle.price_bound.specs.declared.changes.Change.{Change}
use Rattle.price_bound.specs.ChangedDays.{AreChanges, changed_day, changed_meanings}
use Rattle.price_bound.specs.DayMeanings.{meanings_of}
use Rattle.search.specs.declared.found.Found.{Found}
use Rattle.search.specs.Conclusions.{IsSolved}
use Rattle.answer_text.specs.declared.answer.Answer.{Answer}
use Rattle.answer_check.specs.ProvedTrees.{HasProvedTreeIn}
use Rattle.day_planner.specs.Answerable.{IsAnswerable}
use Rattle.day_planner.specs.FoundAnswers.{SaysFound}

-- Of an answerable problem, whatever its root region and the rule of naming: an answer that says what a search has
-- found there has a tree of which all is so that is said of such trees.
abbrev pub SaidAnswersAreProved : Meanings → Type 0
SaidAnswersAreProved problem = (day : Day) (root : List (List Bool)) (naming : List ℕ → List (List ℕ))
    (grant : ℕ) (found : Found) (answer : Answer) → IsAnswerable day problem root → grant ≤ MAX_BRANCHINGS →
    IsSolved problem root grant found → SaysFound day naming found answer →
    HasProvedTreeIn day problem root naming grant answer

-- Each answer to an accepted day can be written down and read again.
abbrev pub DaysAreAnswerable : Type 0
DaysAreAnswerable = (day : Day) → IsSoundDay day → IsAnswerable day (meanings_of day) (root_of day)

-- So can each under changes, in any region in which each trip has a composition.
abbrev pub ChangedDaysAreAnswerable : Type 0
ChangedDaysAreAnswerable = (day : Day) (changes : List Change) (region : List (List Bool)) → IsSoundDay day →
    AreChanges day changes → length region ≡ length day.trips → IsFilled region →
    IsAnswerable day (changed_meanings (changed_day day changes)) region
