use Rattle.cert_check.proofs.Unique.{verdicts_are_one}
use Rattle.cert_check.proofs.laws.verdicts_are_one.Goals as goal

pub returns : goal.returns
returns g c = record { law = λ problem. verdicts_are_one (g.R.Relaxation.meanings problem) }
