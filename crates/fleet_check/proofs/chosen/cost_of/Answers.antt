use Rattle.std.proofs.Common.{◌≡◌, pos, subst}
use Rattle.timetable.specs.Cost.{plan_cost}
use Rattle.timetable.specs.Day.{Day}
use Rattle.timetable.specs.Running.{Runs}
use Rattle.fleets.specs.Fleets.{own_fleet}
use Rattle.fleets.proofs.OwnFleets.{own_fleet_fits}
use Rattle.fleets.proofs.Sizes.{smaller_fleets_fit}
use Rattle.fleet_check.proofs.chosen.cost_of.Goals as goal

pub day_with-requires-clause-fleet : goal.day_with-requires-clause-fleet
day_with-requires-clause-fleet c =
    smaller_fleets_fit c.args.tables.now.instance.now c.args.chosen.now.stock (own_fleet c.args.tables.now.instance.now)
    (own_fleet_fits c.args.tables.now.instance.now c.is_sound.ensures.limits.units.few)
    (c.in_ok-is_within_stock.ensures.0 c.if-not-branch.false)

pub returns-in-Ok : goal.returns-in-Ok
returns-in-Ok c =
    let ran = subst (λ (d : Day). Runs d c.args.chosen.now.plan × (c.in-Ok.ran.cost.0 ≡ pos (plan_cost d c.args.chosen.now.plan))) c.in_ok-day.ensures c.in-Ok.ensures.runs in
    (record { fleet = c.in_ok-is_within_stock.ensures.0 c.if-not-branch.false; does_run = ran.0 }, ran.1)
