use Rattle.worked_answers.proofs.SwappedDuties.{may_swap, no_duty_is_new}
use Rattle.worked_answers.proofs.other_days.duties_go_over.Goals as goal

pub returns : goal.returns
returns c = record {
  swap = may_swap c.renumbered_plans_run.ensures.law;
  old = no_duty_is_new c.renumbered_plans_run.ensures.law c.units_are_renumbered_back.ensures.law;
}
