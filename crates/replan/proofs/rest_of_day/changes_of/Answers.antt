use Rattle.std.proofs.Common.{◌≡◌, ℕ, ap, ◌∙◌, arith}
use Rattle.timetable.specs.Lists.{listed}
use Rattle.price_bound.specs.declared.changes.Change.{Change}
use Rattle.replan.specs.Disturbances.{trips_later}
use Rattle.replan.specs.RestsOfDays.{changes_of, planned_comp}
use Rattle.replan.proofs.rest_of_day.changes_of.Goals as goal

pub returns : goal.returns
unfolding changes_of
returns c =
    let all : c.loop-trip.trip ≡ trips_later c.args.disturbance.now = omega (arith, c.len-trip-end.ensures, c.requires.trips) in
    c.loop-trip.invariant
    ∙ ap (λ (n : ℕ). listed {X = Change} (λ t. record { trip = t; base = planned_comp c.args.disturbance.now t; cost = c.args.disturbance.now.change }) n) all
