use Rattle.answer_check.proofs.Refuting.{only_valid}
use Rattle.answer_check.proofs.Truth.{valid_answers_are_true}
use Rattle.day_planner.proofs.planning.improved_answer_for.Goals as goal

pub returns-clause-headline : goal.returns-clause-headline
returns-clause-headline g c = record {
  holds = valid_answers_are_true c.args.instance.now c.in_ok-answer.answer
      c.is_sound.ensures c.in_ok-answer.ensures.tree.valid;
  tree = c.in_ok-answer.ensures.tree;
}

pub returns-clause-checks : goal.returns-clause-checks
returns-clause-checks g c = λ verdict right.
    only_valid c.args.instance.now c.in_ok-answer.answer c.in_ok-answer.ensures.tree.valid verdict right

pub returns-clause-asked : goal.returns-clause-asked
returns-clause-asked g c = c.day_answer.ensures.asked
