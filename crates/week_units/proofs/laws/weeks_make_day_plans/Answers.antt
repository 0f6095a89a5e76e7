use Rattle.week_units.proofs.Weeks.{weeks_make_day_plans}
use Rattle.week_units.proofs.laws.weeks_make_day_plans.Goals as goal

pub returns : goal.returns
returns c = record { law = weeks_make_day_plans }
