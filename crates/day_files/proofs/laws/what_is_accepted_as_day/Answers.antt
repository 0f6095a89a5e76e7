use Rattle.day_files.proofs.Accepted.{day_accepted_if, day_if_accepted}
use Rattle.day_files.proofs.FirstRefused.{day_refused_before_plan, day_refused_if}
use Rattle.day_files.proofs.RefusedFirst.{day_if_refused}
use Rattle.day_files.proofs.laws.what_is_accepted_as_day.Goals as goal

pub returns : goal.returns
returns c = record {
  accepted = λ files dir day. (day_accepted_if files dir day, day_if_accepted files dir day);
  refused = λ files dir why. (
    λ e. let first = day_refused_if files dir why e in (first, day_refused_before_plan files dir why e first),
    λ h. day_if_refused files dir why h.0 h.1,
  );
}
