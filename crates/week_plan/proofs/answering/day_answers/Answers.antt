use Rattle.std.proofs.Common.{◌∙◌, ◌+◌, List, arith, drop, subst, sym}
use Rattle.answer_text.specs.declared.answer.Answer.{Answer}
use Rattle.week_plan.specs.DayAnswers.{AreDayAnswers}
use Rattle.week_plan.proofs.Answered.{AnsweredSoFar, answered_all, answered_last, answered_more}
use Rattle.week_plan.proofs.AskedDays.{asked_in_all, asked_in_vain, asked_once_more, asked_yet, none_asked_yet}
use Rattle.week_plan.proofs.answering.day_answers.Goals as goal

pub loop-place-init : goal.loop-place-init
loop-place-init g c = record {
  answered = subst (λ (some : List Answer). AnsweredSoFar c.args.allowed.branchings c.args.days.now c.args.days.now some) (sym c.new-answers.ensures.items) (λ more are. are);
  asked = none_asked_yet _ _ _ c.args.allowed.rounds c.args.allowed.branchings c.args.advisors.now.items
      c.new-answers.result.items c.new-answers.ensures.items;
}

pub day_answer-requires-clause-asked : goal.day_answer-requires-clause-asked
day_answer-requires-clause-asked g c =
    asked_yet _ _ _ c.args.allowed.rounds c.args.allowed.branchings c.args.advisors.now.items c.loop-place.advisors.items
    c.loop-place.place c.loop-place.answers.items c.requires.rounds c.requires.branchings (omega arith) c.requires.asked
    c.loop-place.invariant.asked

pub returns-in_err-answer-clause-advisors : goal.returns-in_err-answer-clause-advisors
returns-in_err-answer-clause-advisors g c = c.day_answer.ensures.advisors ∙ c.loop-place.invariant.asked.same

pub returns-in_err-answer-clause-asked : goal.returns-in_err-answer-clause-asked
returns-in_err-answer-clause-asked g c =
    asked_in_vain _ _ _ c.args.allowed.rounds c.args.allowed.branchings c.args.advisors.now.items c.loop-place.advisors.items
    c.day_answer.new.advisors.items c.loop-place.place 7 c.loop-place.answers.items c.loop-place.invariant.asked
    (omega arith) c.day_answer.ensures.asked

pub returns-in_err-push-clause-advisors : goal.returns-in_err-push-clause-advisors
returns-in_err-push-clause-advisors g c = c.day_answer.ensures.advisors ∙ c.loop-place.invariant.asked.same

pub returns-in_err-push-clause-asked : goal.returns-in_err-push-clause-asked
returns-in_err-push-clause-asked g c =
    asked_in_vain _ _ _ c.args.allowed.rounds c.args.allowed.branchings c.args.advisors.now.items c.loop-place.advisors.items
    c.day_answer.new.advisors.items c.loop-place.place 7 c.loop-place.answers.items c.loop-place.invariant.asked
    (omega arith) c.day_answer.ensures.asked

pub returns-then-ends-clause-answers : goal.returns-then-ends-clause-answers
returns-then-ends-clause-answers g c =
    subst (AreDayAnswers c.args.allowed.branchings c.args.days.now) (sym c.in_ok-push.ensures.items)
    (answered_last c.args.allowed.branchings c.args.days.now c.loop-place.place c.index-days-place.result
    c.loop-place.answers.items c.in_ok-answer.answer c.loop-place-test.true c.index-days-place.is
    c.loop-place.invariant.answered c.in_ok-answer.ensures.headline (sym c.is_infeasible-ends.ensures ∙ c.if-ends.true))

pub returns-then-ends-clause-advisors : goal.returns-then-ends-clause-advisors
returns-then-ends-clause-advisors g c = c.day_answer.ensures.advisors ∙ c.loop-place.invariant.asked.same

pub returns-then-ends-clause-asked : goal.returns-then-ends-clause-asked
returns-then-ends-clause-asked g c =
    asked_in_vain _ _ _ c.args.allowed.rounds c.args.allowed.branchings c.args.advisors.now.items c.loop-place.advisors.items
    c.day_answer.new.advisors.items c.loop-place.place 7 c.loop-place.answers.items c.loop-place.invariant.asked
    (omega arith) c.day_answer.ensures.asked

pub returns-then-ends-clause-counted : goal.returns-then-ends-clause-counted
returns-then-ends-clause-counted g c =
    (asked_once_more _ _ _ c.args.allowed.rounds c.args.allowed.branchings c.args.advisors.now.items
    c.loop-place.advisors.items c.day_answer.new.advisors.items c.loop-place.place c.loop-place.answers.items
    c.in_ok-answer.answer c.push.new.self.items c.in_ok-push.ensures.items c.loop-place.invariant.asked
    c.day_answer.ensures.advisors c.day_answer.ensures.asked c.in_ok-answer.ensures.counted).counted

pub loop-place-preserved : goal.loop-place-preserved
loop-place-preserved g c = record {
  answered = subst (λ (some : List Answer). AnsweredSoFar c.args.allowed.branchings c.args.days.now (drop (c.loop-place.place + 1) c.args.days.now) some) (sym c.in_ok-push.ensures.items)
      (answered_more c.args.allowed.branchings c.args.days.now c.loop-place.place c.index-days-place.result
      c.loop-place.answers.items c.in_ok-answer.answer c.loop-place-test.true c.index-days-place.is
      c.loop-place.invariant.answered c.in_ok-answer.ensures.headline (sym c.is_infeasible-ends.ensures ∙ c.if-ends.false));
  asked = asked_once_more _ _ _ c.args.allowed.rounds c.args.allowed.branchings c.args.advisors.now.items
      c.loop-place.advisors.items c.day_answer.new.advisors.items c.loop-place.place c.loop-place.answers.items
      c.in_ok-answer.answer c.push.new.self.items c.in_ok-push.ensures.items c.loop-place.invariant.asked
      c.day_answer.ensures.advisors c.day_answer.ensures.asked c.in_ok-answer.ensures.counted;
}

pub returns-clause-answers : goal.returns-clause-answers
returns-clause-answers g c =
    answered_all c.args.allowed.branchings c.args.days.now c.loop-place.place c.loop-place.answers.items (omega arith)
    c.loop-place.invariant.answered

pub returns-clause-advisors : goal.returns-clause-advisors
returns-clause-advisors g c = c.loop-place.invariant.asked.same

pub returns-clause-asked : goal.returns-clause-asked
returns-clause-asked g c =
    asked_in_all _ _ _ c.args.allowed.rounds c.args.allowed.branchings c.args.advisors.now.items c.loop-place.advisors.items
    c.loop-place.place 7 c.loop-place.answers.items c.loop-place.invariant.asked (omega arith)

pub returns-clause-counted : goal.returns-clause-counted
returns-clause-counted g c = c.loop-place.invariant.asked.counted
