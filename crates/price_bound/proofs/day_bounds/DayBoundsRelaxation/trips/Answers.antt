-- The day under changes is a relaxation of its solutions.
use Rattle.std.proofs.Common.{subst}
use Rattle.branch_tree.specs.Meanings.{IsRelaxation}
use Rattle.price_bound.specs.ChangedDays.{ChangedDay, changed_day, changed_meanings}
use Rattle.price_bound.proofs.ChangedRelaxation.{changed_relaxes}
use Rattle.price_bound.proofs.day_bounds.DayBoundsRelaxation.trips.Goals as goal

pub returns-clause-accepted : goal.returns-clause-accepted
returns-clause-accepted c =
    subst (λ (changed : ChangedDay). IsRelaxation (changed_meanings changed)) c.self.view_is
    (changed_relaxes (changed_day c.self.inside.instance.now c.self.inside.changes.now) c.self.invariant.work.accepted)
