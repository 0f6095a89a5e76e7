use Rattle.worked_answers.proofs.OtherDays.{go_on}
use Rattle.worked_answers.proofs.other_days.weeks_go_on.Goals as goal

pub returns : goal.returns
returns c = record {
  law = go_on c.units_are_left.ensures.law c.other_stock_keeps_timetables.ensures.law
      c.served_plans_run_with_units.ensures.law c.plans_of_units_are_served.ensures.law;
}
