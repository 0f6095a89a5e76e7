use Rattle.replan.proofs.PastsKept.{pasts_are_kept}
use Rattle.replan.proofs.laws.pasts_are_kept.Goals as goal

pub returns : goal.returns
returns c = record { law = pasts_are_kept }
