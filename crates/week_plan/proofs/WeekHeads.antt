-- What the head of a week says is true of all week plans.
use Rattle.std.proofs.Common.{◌≡◌, ℕ, ◌+◌, List, [], ◌∷◌, Bool, false, refl, sym, ap, ◌∙◌, subst, arith, pos, IsTrue, Option, None, Some}
use Rattle.std.specs.Prelude.{◌≤ℤ◌, MatchOption, unwrap_or}
use Rattle.std.specs.List.{AllZip}
use Rattle.std.proofs.lemmas.Bool.{false≢true}
use Rattle.std.proofs.lemmas.Int.{ints}
use Rattle.timetable.specs.Cost.{plan_cost, plan_cost_of}
use Rattle.timetable.specs.Day.{Day, Units}
use Rattle.timetable.specs.Running.{Runs}
use Rattle.answer_text.specs.declared.answer.Answer.{Answer}
use Rattle.rules.specs.declared.heads.Head.{Head}
use Rattle.rules.specs.declared.heads.Head.TheVariants.{Optimal, Infeasible, Bounded, BoundedPlan}
use Rattle.answer_text.specs.Limits.{has_plan}
use Rattle.answer_check.specs.Headline.{IsTrueOf, Says}
use Rattle.week_units.specs.Laws.{HasDayPlan, cost_of_days}
use Rattle.week_units.specs.Names.{AreNamesDayByDay, each_by_name}
use Rattle.week_units.specs.WeekPlans.{NoWeekPlanRuns, WeekPlansCostAtLeast, WeekRuns, cost_day_by_day, week_cost, week_units}
use Rattle.week_units.specs.Weeks.{AreWeek}
use Rattle.week_units.proofs.Weeks.{named_plans_make_weeks, weeks_make_day_plans}
use Rattle.week_plan.specs.declared.answers.Week.{Week}
use Rattle.week_plan.specs.DayAnswers.{AreDayAnswers, IfPassed, is_infeasible, plans_in}
use Rattle.week_plan.specs.Heads.{head_of, together}
use Rattle.week_plan.specs.WeekAnswers.{IsWeekAnswer, IsWeekPlanAtCost, week_plan_of}

-- ---- what heads say of a cost, and of a plan

-- a plan may have this cost
abbrev pub Allows : Head → ℕ → Type 0
Allows (Optimal cost) n = cost.0 ≤ℤ pos n
Allows Infeasible n = ⊥
Allows (Bounded bound) n = bound.0 ≤ℤ pos n
Allows (BoundedPlan bound cost) n = bound.0 ≤ℤ pos n

-- where there is a plan, a fact holds, and it has this cost
abbrev pub Tells : Type 0 → Head → ℕ → Type 0
Tells P (Optimal cost) n = P × (cost.0 ≡ pos n)
Tells P Infeasible n = Unit {0}
Tells P (Bounded bound) n = Unit {0}
Tells P (BoundedPlan bound cost) n = P × (cost.0 ≡ pos n)

allows_both : (h r : Head) (n m : ℕ) → Allows h n → Allows r m → Allows (together h r) (n + m)
allows_both Infeasible r n m one two = absurd one
allows_both (Optimal c) Infeasible n m one two = absurd two
allows_both (Optimal c) (Optimal d) n m one two = omega (arith, ints, one, two)
allows_both (Optimal c) (Bounded d) n m one two = omega (arith, ints, one, two)
allows_both (Optimal c) (BoundedPlan d e) n m one two = omega (arith, ints, one, two)
allows_both (Bounded c) Infeasible n m one two = absurd two
allows_both (Bounded c) (Optimal d) n m one two = omega (arith, ints, one, two)
allows_both (Bounded c) (Bounded d) n m one two = omega (arith, ints, one, two)
allows_both (Bounded c) (BoundedPlan d e) n m one two = omega (arith, ints, one, two)
allows_both (BoundedPlan c f) Infeasible n m one two = absurd two
allows_both (BoundedPlan c f) (Optimal d) n m one two = omega (arith, ints, one, two)
allows_both (BoundedPlan c f) (Bounded d) n m one two = omega (arith, ints, one, two)
allows_both (BoundedPlan c f) (BoundedPlan d e) n m one two = omega (arith, ints, one, two)

tells_both : (P Q : Type 0) (h r : Head) (n m : ℕ) → Tells P h n → Tells Q r m → Tells (P × Q) (together h r) (n + m)
tells_both P Q Infeasible r n m one two = tt
tells_both P Q (Optimal c) Infeasible n m one two = tt
tells_both P Q (Optimal c) (Optimal d) n m one two = ((one.0, two.0), omega (arith, ints, one.1, two.1))
tells_both P Q (Optimal c) (Bounded d) n m one two = tt
tells_both P Q (Optimal c) (BoundedPlan d e) n m one two = ((one.0, two.0), omega (arith, ints, one.1, two.1))
tells_both P Q (Bounded c) Infeasible n m one two = tt
tells_both P Q (Bounded c) (Optimal d) n m one two = tt
tells_both P Q (Bounded c) (Bounded d) n m one two = tt
tells_both P Q (Bounded c) (BoundedPlan d e) n m one two = tt
tells_both P Q (BoundedPlan c f) Infeasible n m one two = tt
tells_both P Q (BoundedPlan c f) (Optimal d) n m one two = ((one.0, two.0), omega (arith, ints, one.1, two.1))
tells_both P Q (BoundedPlan c f) (Bounded d) n m one two = tt
tells_both P Q (BoundedPlan c f) (BoundedPlan d e) n m one two = ((one.0, two.0), omega (arith, ints, one.1, two.1))

-- ---- of one day

day_allows : (all : Units) (day : Day) (plan runs : List (List ℕ)) (h : Head) → IsTrueOf day h runs → HasDayPlan all day plan → Allows h (plan_cost_of all day plan)
day_allows all day plan runs (Optimal c) true_of has = subst (λ (n : ℕ). c.0 ≤ℤ pos n) has.cost (true_of.1 has.own has.does_run)
day_allows all day plan runs Infeasible true_of has = true_of has.own has.does_run
day_allows all day plan runs (Bounded b) true_of has = subst (λ (n : ℕ). b.0 ≤ℤ pos n) has.cost (true_of has.own has.does_run)
day_allows all day plan runs (BoundedPlan b c) true_of has = subst (λ (n : ℕ). b.0 ≤ℤ pos n) has.cost (true_of.1 has.own has.does_run)

day_tells : (day : Day) (runs : List (List ℕ)) (h : Head) → IsTrueOf day h runs → Tells (Runs day runs) h (plan_cost day runs)
day_tells day runs (Optimal c) true_of = (true_of.0.does_run, true_of.0.costs)
day_tells day runs Infeasible true_of = tt
day_tells day runs (Bounded b) true_of = tt
day_tells day runs (BoundedPlan b c) true_of = (true_of.0.does_run, true_of.0.costs)

not_infeasible : (h : Head) (n : ℕ) → Allows h n → is_infeasible h ≡ false
not_infeasible (Optimal c) n allows = refl
not_infeasible Infeasible n allows = absurd allows
not_infeasible (Bounded b) n allows = refl
not_infeasible (BoundedPlan b c) n allows = refl

-- ---- of all days

all_allow : (all : Units) (grant : ℕ) (days : List Day) (answers : List Answer) (plans : List (List (List ℕ))) → AreDayAnswers grant days answers → AllZip (HasDayPlan all) days plans → Allows (head_of answers) (cost_day_by_day all days plans)
all_allow all grant [] [] [] are have = omega (arith, ints)
all_allow all grant [] [] (plan ∷ plans) are have = absurd have
all_allow all grant [] (answer ∷ answers) plans are have = absurd are
all_allow all grant (day ∷ days) [] plans are have = absurd are
all_allow all grant (day ∷ days) (answer ∷ answers) [] are have = absurd have
all_allow all grant (day ∷ days) (answer ∷ answers) (plan ∷ plans) are have =
    let here : Allows answer.head (plan_cost_of all day plan) = day_allows all day plan answer.runs answer.head are.0.holds have.0 in
    let more : AreDayAnswers grant days answers = subst (λ (b : Bool). IfPassed b (answers ≡ []) (AreDayAnswers grant days answers)) (not_infeasible answer.head (plan_cost_of all day plan) here) are.1 in
    allows_both answer.head (head_of answers) (plan_cost_of all day plan) (cost_day_by_day all days plans) here (all_allow all grant days answers plans more have.1)

all_tell : (grant : ℕ) (days : List Day) (answers : List Answer) → AreDayAnswers grant days answers → Tells (AllZip Runs days (plans_in answers)) (head_of answers) (cost_of_days days (plans_in answers))
all_tell grant [] [] are = (tt, refl)
all_tell grant [] (answer ∷ answers) are = absurd are
all_tell grant (day ∷ days) [] are = absurd are
all_tell grant (day ∷ days) (answer ∷ answers) are = on answer.head (day_tells day answer.runs answer.head are.0.holds) are.1 (λ more. all_tell grant days answers more)
  where
    rest : (h : Head) → Tells (Runs day answer.runs) h (plan_cost day answer.runs) → Tells (AllZip Runs days (plans_in answers)) (head_of answers) (cost_of_days days (plans_in answers))
        → Tells (Runs day answer.runs × AllZip Runs days (plans_in answers)) (together h (head_of answers)) (plan_cost day answer.runs + cost_of_days days (plans_in answers))
    rest h here more = tells_both (Runs day answer.runs) (AllZip Runs days (plans_in answers)) h (head_of answers) (plan_cost day answer.runs) (cost_of_days days (plans_in answers)) here more

    on : (h : Head) → Tells (Runs day answer.runs) h (plan_cost day answer.runs) → IfPassed (is_infeasible h) (answers ≡ []) (AreDayAnswers grant days answers)
        → (AreDayAnswers grant days answers → Tells (AllZip Runs days (plans_in answers)) (head_of answers) (cost_of_days days (plans_in answers)))
        → Tells (Runs day answer.runs × AllZip Runs days (plans_in answers)) (together h (head_of answers)) (plan_cost day answer.runs + cost_of_days days (plans_in answers))
    on (Optimal c) here more later = rest (Optimal c) here (later more)
    on Infeasible here none later = tt
    on (Bounded b) here more later = rest (Bounded b) here (later more)
    on (BoundedPlan b c) here more later = rest (BoundedPlan b c) here (later more)

-- where the head has a plan, the plans of the days run
tells_run : (P : Type 0) (h : Head) (n : ℕ) → Tells P h n → IsTrue (has_plan h) → P
tells_run P (Optimal c) n tells has = tells.0
tells_run P Infeasible n tells has = absurd (false≢true has)
tells_run P (Bounded b) n tells has = absurd (false≢true has)
tells_run P (BoundedPlan b c) n tells has = tells.0

pub plans_run : (grant : ℕ) (days : List Day) (answers : List Answer) (head : Head) → AreDayAnswers grant days answers → head ≡ head_of answers → IsTrue (has_plan head) → AllZip Runs days (plans_in answers)
plans_run grant days answers head are is has =
    tells_run (AllZip Runs days (plans_in answers)) (head_of answers) (cost_of_days days (plans_in answers)) (all_tell grant days answers are) (subst (λ (h : Head). IsTrue (has_plan h)) is has)

-- ---- of the week

says_so : (days : List Day) (plans : List (List (List ℕ))) (P : Type 0) (n : ℕ) (h : Head) → Tells P h n → ((others : List (List (List ℕ))) → WeekRuns days others → Allows h (week_cost days others))
    → (IsTrue (has_plan h) → P → WeekRuns days plans × (week_cost days plans ≡ n)) → Says (IsWeekPlanAtCost days plans) (WeekPlansCostAtLeast days) (NoWeekPlanRuns days) h
says_so days plans P n (Optimal c) tells allows runs =
    let both = runs refl tells.0 in (record { does_run = both.0; costs = tells.1 ∙ ap pos (sym both.1) }, λ others run. allows others run)
says_so days plans P n Infeasible tells allows runs = λ others run. allows others run
says_so days plans P n (Bounded b) tells allows runs = λ others run. allows others run
says_so days plans P n (BoundedPlan b c) tells allows runs =
    let both = runs refl tells.0 in (record { does_run = both.0; costs = tells.1 ∙ ap pos (sym both.1) }, λ others run. allows others run)

named_so : (days : List Day) (plans : List (List (List ℕ))) (has : Bool) (named : Option (List (List ℕ))) → AreWeek days → MatchOption named (has ≡ false) (λ names. IsTrue has × AreNamesDayByDay (week_units days) days plans names)
    → IsTrue has → AllZip Runs days plans → WeekRuns days (each_by_name (unwrap_or named []) plans) × (week_cost days (each_by_name (unwrap_or named []) plans) ≡ cost_of_days days plans)
named_so days plans has None week are some run = absurd (false≢true (sym are ∙ some))
named_so days plans has (Some names) week are some run = let by_name = named_plans_make_weeks days plans names week run are.1 in (by_name.runs, by_name.cost)

pub is_week_answer : (days : List Day) (grant : ℕ) (week : Week) → AreWeek days → AreDayAnswers grant days week.days → week.head ≡ head_of week.days
    → MatchOption week.named (has_plan week.head ≡ false) (λ names. IsTrue (has_plan week.head) × AreNamesDayByDay (week_units days) days (plans_in week.days) names) → IsWeekAnswer days grant week
is_week_answer days grant week is_week are head named = record {
  holds = says_so days (week_plan_of week) (AllZip Runs days (plans_in week.days)) (cost_of_days days (plans_in week.days)) week.head
      (subst (λ (h : Head). Tells (AllZip Runs days (plans_in week.days)) h (cost_of_days days (plans_in week.days))) (sym head) (all_tell grant days week.days are))
      (λ others run. subst (λ (h : Head). Allows h (week_cost days others)) (sym head) (all_allow (week_units days) grant days week.days others are (weeks_make_day_plans days others is_week run)))
      (named_so days (plans_in week.days) (has_plan week.head) week.named is_week named);
  answers = are;
  head = head;
  named = named;
}
