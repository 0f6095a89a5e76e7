use Rattle.worked_answers.proofs.OtherDays.{named_again, named_without, taken_up}
use Rattle.worked_answers.proofs.other_days.plans_are_named_again.Goals as goal

pub returns : goal.returns
returns c = record {
  same_day = named_again c.plans_name_their_past.ensures.law c.named_plans_run.ensures.law;
  past = taken_up c.names_stay.ensures.law c.named_plans_run.ensures.law;
  without_trips = named_without c.days_without_are_later.ensures.law c.plans_name_their_past_later.ensures.law
      c.named_plans_run.ensures.law;
}
