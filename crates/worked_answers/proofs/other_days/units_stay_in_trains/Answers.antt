use Rattle.worked_answers.proofs.OtherDays.{stay_at_links, stay_in_trains}
use Rattle.worked_answers.proofs.other_days.units_stay_in_trains.Goals as goal

pub returns : goal.returns
returns c = record {
  at_links = stay_at_links c.links_count.ensures.law;
  in_plans = stay_in_trains c.trips_count.ensures.law;
}
