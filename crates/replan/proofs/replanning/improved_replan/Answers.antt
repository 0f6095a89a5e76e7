use Rattle.std.proofs.Common.{◌+◌, ◌*◌, sym, ap, subst, ◌∙◌}
use Rattle.search.specs.Questions.{AreAsked, in_rounds}
use Rattle.answer_text.specs.declared.answer.Answer.{Answer}
use Rattle.answer_text.specs.Limits.{has_plan}
use Rattle.answer_check.specs.ProvedTrees.{open_leaves}
use Rattle.replan.specs.Promises.{HasProvedTree}
use Rattle.replan.proofs.Saying.{is_replanned}
use Rattle.replan.proofs.Searched.{runs_planned, same_answer}
use Rattle.replan.proofs.replanning.improved_replan.Goals as goal

pub said_of-requires-clause-few : goal.said_of-requires-clause-few
said_of-requires-clause-few g c = c.in_ok-answer.ensures.tree.within.few_runs

pub said_of-requires-clause-runs : goal.said_of-requires-clause-runs
said_of-requires-clause-runs g c = runs_planned c.args.rest.now c.args.allowed.branchings c.in_ok-answer.answer c.in_ok-answer.ensures.tree

pub returns-clause-promise : goal.returns-clause-promise
returns-clause-promise g c =
    let tree = c.in_ok-answer.ensures.tree in
    let says = c.said_of.ensures in
    is_replanned c.args.rest.now c.in_ok-answer.ensures.under_way c.args.allowed.branchings c.said_of.result
    (says.there ∙ ap has_plan (sym says.head))
    (subst (HasProvedTree c.args.rest.now c.args.allowed.branchings) (same_answer c.in_ok-answer.answer c.said_of.result says.head says.runs says.tree tree.branchings) tree)
    says.changes

pub returns-clause-asked : goal.returns-clause-asked
returns-clause-asked g c = c.later_answer.ensures.asked

pub returns-clause-counted : goal.returns-clause-counted
returns-clause-counted g c =
    let says = c.said_of.ensures in
    let rounds = c.args.allowed.rounds in
    subst (λ (answer : Answer). AreAsked c.args.advisors.now.items c.later_answer.new.advisors.items
    (λ b. (goal.Advisor-dyn g (b.vtable, b.value)).asked b.value)
    (λ b. (goal.Advisor-dyn g (b.vtable, b.value)).has_quit b.value)
    (in_rounds rounds (answer.branchings + open_leaves answer)) (rounds * (2 * answer.branchings + 1)))
    (same_answer c.in_ok-answer.answer c.said_of.result says.head says.runs says.tree c.in_ok-answer.ensures.tree.branchings)
    c.in_ok-answer.ensures.counted
