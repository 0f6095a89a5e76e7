use Rattle.week_units.proofs.Weeks.{named_plans_make_weeks}
use Rattle.week_units.proofs.laws.named_plans_make_weeks.Goals as goal

pub returns : goal.returns
returns c = record { law = named_plans_make_weeks }
