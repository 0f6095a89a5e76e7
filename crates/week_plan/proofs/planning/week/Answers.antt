use Rattle.std.proofs.Common.{◌≡◌, ◌∙◌, ◌+◌, ◌*◌, ◌≤◌, List, All, ap, arith, false, length, refl, rules, subst, sym, IsTrue}
use Rattle.std.specs.Prelude.{MatchOption}
use Rattle.std.specs.List.{AllZip}
use Rattle.rail_base.specs.declared.limits.TheConstants.{MAX_TRIPS}
use Rattle.timetable.specs.Running.{Runs}
use Rattle.search.specs.Questions.{AreAsked}
use Rattle.search.proofs.Asking.{are_unasked}
use Rattle.answer_text.specs.declared.answer.Answer.{Answer}
use Rattle.answer_text.specs.declared.limits.TheConstants.{MAX_AMOUNT}
use Rattle.answer_text.specs.Limits.{has_plan}
use Rattle.week_units.specs.declared.nights.TheConstants.{MAX_DAYS}
use Rattle.week_units.specs.Names.{AreNamesDayByDay}
use Rattle.week_units.specs.WeekPlans.{week_units}
use Rattle.week_plan.specs.Amounts.{IsHeadUpTo}
use Rattle.week_plan.specs.DayAnswers.{AreDayAnswers, least_asked, most_asked, plans_in}
use Rattle.week_plan.specs.Heads.{head_of}
use Rattle.week_plan.specs.WeekAnswers.{fault_said}
use Rattle.week_plan.proofs.Answered.{few_runs, heads_within, no_more_answers}
use Rattle.week_plan.proofs.Refusals.{fault_is_said, so_anyway}
use Rattle.week_plan.proofs.WeekHeads.{is_week_answer, plans_run}
use Rattle.week_plan.proofs.planning.week.Goals as goal

pub returns-in-Some-clause-refusal : goal.returns-in-Some-clause-refusal
returns-in-Some-clause-refusal g c = fault_is_said c.args.days.now c.in-Some.fault c.in-Some.ensures

pub returns-in-Some-clause-unasked : goal.returns-in-Some-clause-unasked
returns-in-Some-clause-unasked g c = so_anyway (fault_said c.in-Some.fault) refl

pub returns-in-Some-clause-asked : goal.returns-in-Some-clause-asked
returns-in-Some-clause-asked g c = are_unasked _ _ (7 * (c.args.rounds * (2 * c.args.grant + 1))) c.args.advisors.now.items

pub head_of-head-requires-clause-few : goal.head_of-head-requires-clause-few
head_of-head-requires-clause-few g c =
    let fewer : length c.in_ok-answers.answers.items ≤ length c.args.days.now =
    no_more_answers c.args.grant c.args.days.now c.in_ok-answers.answers.items c.in_ok-answers.ensures.answers in
    let few : length c.in_ok-answers.answers.items ≤ MAX_DAYS = omega (arith, fewer, c.requires.few) in
    subst (λ (some : List Answer). length some ≤ MAX_DAYS) (sym c.deref.ensures.value) few

pub head_of-head-requires-clause-amounts : goal.head_of-head-requires-clause-amounts
head_of-head-requires-clause-amounts g c =
    subst (λ (some : List Answer). All (λ answer. IsHeadUpTo MAX_AMOUNT answer.head) some) (sym c.deref.ensures.value)
    (heads_within c.args.grant c.args.days.now c.in_ok-answers.answers.items c.in_ok-answers.ensures.answers)

pub names_for-requires-clause-few : goal.names_for-requires-clause-few
names_for-requires-clause-few g c =
    subst (λ (some : List Answer). All (λ answer. length answer.runs ≤ MAX_TRIPS) some) (sym c.deref-2.ensures.value)
    (few_runs c.args.grant c.args.days.now c.in_ok-answers.answers.items c.in_ok-answers.ensures.answers)

pub names_for-requires-clause-run : goal.names_for-requires-clause-run
names_for-requires-clause-run g c = λ has.
    subst (λ (some : List Answer). AllZip Runs c.args.days.now (plans_in some)) (sym c.deref-2.ensures.value)
    (plans_run c.args.grant c.args.days.now c.in_ok-answers.answers.items c.head_of-head.result
    c.in_ok-answers.ensures.answers (c.head_of-head.ensures.value ∙ ap head_of c.deref.ensures.value) has)

pub returns-clause-answer : goal.returns-clause-answer
returns-clause-answer g c =
    let head = c.head_of-head.result in
    let days = c.args.days.now in
    is_week_answer days c.args.grant _ (search rules)
    (subst (AreDayAnswers c.args.grant days) (sym c.of.ensures) c.in_ok-answers.ensures.answers)
    (c.head_of-head.ensures.value ∙ ap head_of (c.deref.ensures.value ∙ sym c.of.ensures))
    (subst (λ (some : List Answer). MatchOption c.in_ok-named.named (has_plan head ≡ false)
    (λ names. IsTrue (has_plan head) × AreNamesDayByDay (week_units days) days (plans_in some) names))
    (c.deref-2.ensures.value ∙ sym c.of.ensures) c.in_ok-named.ensures)

pub returns-clause-counted : goal.returns-clause-counted
returns-clause-counted g c =
    subst (λ (some : List Answer). AreAsked c.args.advisors.now.items c.day_answers.new.advisors.items _ _
    (least_asked c.args.rounds some) (most_asked c.args.rounds some)) (sym c.of.ensures)
    c.in_ok-answers.ensures.counted
