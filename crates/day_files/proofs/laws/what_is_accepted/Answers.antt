use Rattle.day_files.proofs.Accepted.{accepted_if, if_accepted}
use Rattle.day_files.proofs.FirstRefused.{refused_if}
use Rattle.day_files.proofs.RefusedFirst.{if_refused}
use Rattle.day_files.proofs.laws.what_is_accepted.Goals as goal

pub returns : goal.returns
returns c = record {
  accepted = λ files dir inputs. (accepted_if files dir inputs, if_accepted files dir inputs);
  refused = λ files dir why. (refused_if files dir why, if_refused files dir why);
}
