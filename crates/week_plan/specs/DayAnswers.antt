-- The answers to the days of a week, and how often advisors are asked for them.
use Rattle.std.specs.Prelude.{ℕ, ◌+◌, ◌*◌, ◌≡◌, List, [], ◌∷◌, map, ⊤, Bool, true, false}
use Rattle.timetable.specs.Day.{Day}
use Rattle.search.specs.Questions.{in_rounds}
use Rattle.answer_text.specs.declared.answer.Answer.{Answer}
use Rattle.rules.specs.declared.heads.Head.{Head}
use Rattle.rules.specs.declared.heads.Head.TheVariants.{Optimal, Infeasible, Bounded, BoundedPlan}
use Rattle.answer_check.specs.Headline.{IsHeadline}
use Rattle.answer_check.specs.ProvedTrees.{open_leaves}

-- a head says that no plan runs
abbrev pub is_infeasible : Head → Bool
is_infeasible (Optimal cost) = false
is_infeasible Infeasible = true
is_infeasible (Bounded bound) = false
is_infeasible (BoundedPlan bound cost) = false

-- one thing where a test is passed, and else another
abbrev pub IfPassed : Bool → Type 0 → Type 0 → Type 0
IfPassed true Then Else = Then
IfPassed false Then Else = Else

-- Each is an answer to its day with all that is promised of one, for which so many branchings were granted. The list
-- ends with the first day on which no plan runs, or with the last.
abbrev pub AreDayAnswers : ℕ → List Day → List Answer → Type 0
AreDayAnswers grant [] [] = ⊤
AreDayAnswers grant [] (answer ∷ answers) = ⊥
AreDayAnswers grant (day ∷ days) [] = ⊥
AreDayAnswers grant (day ∷ days) (answer ∷ answers) =
    IsHeadline day grant answer × IfPassed (is_infeasible answer.head) (answers ≡ []) (AreDayAnswers grant days answers)

-- the plans of the days, of their own units
abbrev pub plans_in : List Answer → List (List (List ℕ))
plans_in answers = map (λ answer. answer.runs) answers

-- how often each advisor is asked for these answers at least, unless it quits, and at most
abbrev pub least_asked : ℕ → List Answer → ℕ
least_asked rounds [] = 0
least_asked rounds (answer ∷ answers) =
    in_rounds rounds (answer.branchings + open_leaves answer) + least_asked rounds answers

abbrev pub most_asked : ℕ → List Answer → ℕ
most_asked rounds [] = 0
most_asked rounds (answer ∷ answers) = rounds * (2 * answer.branchings + 1) + most_asked rounds answers
