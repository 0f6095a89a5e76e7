use Rattle.fleet_check.proofs.Passing.{verdicts_are_one}
use Rattle.fleet_check.proofs.laws.fleet_verdicts_are_one.Goals as goal

pub returns : goal.returns
returns c = record { law = verdicts_are_one }
