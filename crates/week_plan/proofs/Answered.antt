-- The answers to the days so far.
use Rattle.std.proofs.Common.{◌≡◌, ℕ, ◌+◌, ◌<◌, ◌≤◌, List, [], ◌∷◌, ◌++◌, All, Bool, true, false, length, drop, get_or, refl, sym, ap, ◌∙◌, subst, arith}
use Rattle.std.proofs.lemmas.List.{append-nil, append_assoc, drop_all, drop_more}
use Rattle.std.proofs.lemmas.List.Elements.{All-cons, All-nil}
use Rattle.rail_base.specs.declared.limits.TheConstants.{MAX_TRIPS}
use Rattle.timetable.specs.Day.{Day}
use Rattle.answer_text.specs.declared.answer.Answer.{Answer}
use Rattle.rules.specs.declared.heads.Head.{Head}
use Rattle.rules.specs.declared.heads.Head.TheVariants.{Optimal, Infeasible, Bounded, BoundedPlan}
use Rattle.answer_text.specs.declared.limits.TheConstants.{MAX_AMOUNT}
use Rattle.answer_text.specs.Limits.{IsHead}
use Rattle.answer_check.specs.Headline.{IsHeadline}
use Rattle.week_plan.specs.Amounts.{IsHeadUpTo}
use Rattle.week_plan.specs.DayAnswers.{AreDayAnswers, IfPassed, is_infeasible}

-- With answers to the days that are left these are the answers to all.
abbrev pub AnsweredSoFar : ℕ → List Day → List Day → List Answer → Type 0
AnsweredSoFar grant days left answers = (more : List Answer) → AreDayAnswers grant left more → AreDayAnswers grant days (answers ++ more)

opened : (grant : ℕ) (days : List Day) (k : ℕ) (day : Day) (answers : List Answer) → k < length days → day ≡ get_or days k day → AnsweredSoFar grant days (drop k days) answers → AnsweredSoFar grant days (day ∷ drop (k + 1) days) answers
opened grant days k day answers lt is so =
    subst (λ (left : List Day). AnsweredSoFar grant days left answers) (drop_more days k day lt ∙ ap (λ (d : Day). d ∷ drop (k + 1) days) (sym is)) so

-- one day more, on which a plan may run
pub answered_more : (grant : ℕ) (days : List Day) (k : ℕ) (day : Day) (answers : List Answer) (answer : Answer) → k < length days → day ≡ get_or days k day → AnsweredSoFar grant days (drop k days) answers
    → IsHeadline day grant answer → is_infeasible answer.head ≡ false → AnsweredSoFar grant days (drop (k + 1) days) (answers ++ answer ∷ [])
answered_more grant days k day answers answer lt is so headline goes_on more rest =
    subst (AreDayAnswers grant days) (sym (append_assoc answers (answer ∷ []) more))
    (opened grant days k day answers lt is so (answer ∷ more) (headline, subst (λ (b : Bool). IfPassed b (more ≡ []) (AreDayAnswers grant (drop (k + 1) days) more)) (sym goes_on) rest))

-- the last day, on which none runs
pub answered_last : (grant : ℕ) (days : List Day) (k : ℕ) (day : Day) (answers : List Answer) (answer : Answer) → k < length days → day ≡ get_or days k day → AnsweredSoFar grant days (drop k days) answers
    → IsHeadline day grant answer → is_infeasible answer.head ≡ true → AreDayAnswers grant days (answers ++ answer ∷ [])
answered_last grant days k day answers answer lt is so headline ends =
    opened grant days k day answers lt is so (answer ∷ []) (headline, subst (λ (b : Bool). IfPassed b (◌≡◌ {A = List Answer} [] []) (AreDayAnswers grant (drop (k + 1) days) [])) (sym ends) refl)

-- all days
pub answered_all : (grant : ℕ) (days : List Day) (k : ℕ) (answers : List Answer) → length days ≤ k → AnsweredSoFar grant days (drop k days) answers → AreDayAnswers grant days answers
answered_all grant days k answers all so =
    subst (AreDayAnswers grant days) (append-nil answers) (so [] (subst (λ (left : List Day). AreDayAnswers grant left []) (sym (drop_all k days all)) tt))

-- ---- what all answers have

module _ (grant : ℕ) (P : Answer → Type 0) (has : (day : Day) (answer : Answer) → IsHeadline day grant answer → P answer) where
  pub each_has : (days : List Day) (answers : List Answer) → AreDayAnswers grant days answers → All P answers
  each_has [] [] are = All-nil P
  each_has [] (answer ∷ answers) are = absurd are
  each_has (day ∷ days) [] are = absurd are
  each_has (day ∷ days) (answer ∷ answers) are = All-cons P answer answers (has day answer are.0) (rest (is_infeasible answer.head) are.1 (λ more. each_has days answers more))
    where
      rest : (b : Bool) → IfPassed b (answers ≡ []) (AreDayAnswers grant days answers) → (AreDayAnswers grant days answers → All P answers) → All P answers
      rest true none later = subst (All P) (sym none) (All-nil P)
      rest false more later = later more

pub no_more_answers : (grant : ℕ) (days : List Day) (answers : List Answer) → AreDayAnswers grant days answers → length answers ≤ length days
no_more_answers grant [] [] are = omega arith
no_more_answers grant [] (answer ∷ answers) are = absurd are
no_more_answers grant (day ∷ days) [] are = absurd are
no_more_answers grant (day ∷ days) (answer ∷ answers) are = rest (is_infeasible answer.head) are.1 (λ more. no_more_answers grant days answers more)
  where
    rest : (b : Bool) → IfPassed b (answers ≡ []) (AreDayAnswers grant days answers) → (AreDayAnswers grant days answers → length answers ≤ length days) → length (answer ∷ answers) ≤ length (day ∷ days)
    rest true none later = let no_more = ap (λ (rest : List Answer). length rest) none in omega arith
    rest false more later = let fewer = later more in omega arith

-- amounts of an answer's head are within the limit
head_within : (h : Head) → IsHead h → IsHeadUpTo MAX_AMOUNT h
head_within (Optimal cost) is = is
head_within Infeasible is = is
head_within (Bounded bound) is = is
head_within (BoundedPlan bound cost) is = is

pub heads_within : (grant : ℕ) (days : List Day) (answers : List Answer) → AreDayAnswers grant days answers → All (λ answer. IsHeadUpTo MAX_AMOUNT answer.head) answers
heads_within grant days answers are = each_has grant (λ answer. IsHeadUpTo MAX_AMOUNT answer.head) (λ day answer headline. head_within answer.head headline.tree.within.head) days answers are

pub few_runs : (grant : ℕ) (days : List Day) (answers : List Answer) → AreDayAnswers grant days answers → All (λ answer. length answer.runs ≤ MAX_TRIPS) answers
few_runs grant days answers are = each_has grant (λ answer. length answer.runs ≤ MAX_TRIPS) (λ day answer headline. headline.tree.within.few_runs) days answers are
