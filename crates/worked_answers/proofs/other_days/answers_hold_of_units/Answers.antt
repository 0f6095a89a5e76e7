use Rattle.worked_answers.proofs.OtherDays.{hold_of_units}
use Rattle.worked_answers.proofs.other_days.answers_hold_of_units.Goals as goal

pub returns : goal.returns
returns c = record {
  law = hold_of_units c.kth_units_are_renumbered.ensures.law c.truths_are_renumbered.ensures.law;
}
