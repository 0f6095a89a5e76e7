use Rattle.std.proofs.Common.{◌≡◌, ◌<◌, ℕ, List, Option, length, sym, ap, subst, ◌∙◌, unwrap_or}
use Rattle.std.specs.Prelude.{slice_get}
use Rattle.timetable.specs.DerivedDays.{old_number}
use Rattle.replan.specs.Disturbances.{Disturbed}
use Rattle.replan.proofs.LaterFacts.{old_below}
use Rattle.replan.proofs.disturbances.Disturbance.old.Goals as goal

pub returns-clause-known : goal.returns-clause-known
returns-clause-known c =
    let number : c.old.result ≡ old_number c.args.self.now.day c.args.self.now.cancelled c.args.trip =
    sym (ap (λ (o : Option ℕ). unwrap_or o 0) c.old.ensures) ∙ ap (λ (numbers : List ℕ). unwrap_or (slice_get numbers c.args.trip) 0) c.self.invariant.1.numbers_are
    ∙ ap (λ (disturbed : Disturbed). old_number disturbed.day disturbed.cancelled c.args.trip) c.self.view_is in
    subst (λ (n : ℕ). n < length c.args.self.now.day.trips) (sym number) (old_below c.args.self.now c.args.trip c.requires)
