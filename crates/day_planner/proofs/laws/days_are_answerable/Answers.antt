use Rattle.day_planner.proofs.Answerable.{changed_days_are_answerable, days_are_answerable}
use Rattle.day_planner.proofs.laws.days_are_answerable.Goals as goal

pub returns : goal.returns
returns c = record { day = days_are_answerable; changed = changed_days_are_answerable }
