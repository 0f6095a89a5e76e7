use Rattle.worked_answers.proofs.OtherDays.{run_in_fleets}
use Rattle.worked_answers.proofs.other_days.plans_run_in_larger_fleets.Goals as goal

pub returns : goal.returns
returns c = record {
  law = run_in_fleets c.kth_units_are_among.ensures.law c.plans_run_among.ensures.law c.plans_run_in_parts.ensures.law;
}
