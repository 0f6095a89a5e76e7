use Rattle.planner_app.proofs.Rereading.{headlines_are_reported, headlines_are_valid}
use Rattle.planner_app.proofs.laws.headlines_are_valid.Goals as goal

pub returns : goal.returns
returns c = record { check = headlines_are_valid; report = headlines_are_reported }
