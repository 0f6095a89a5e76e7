use Rattle.std.proofs.Common.{◌<◌, subst, arith, length, sym}
use Rattle.std.specs.List.{All}
use Rattle.std.proofs.lemmas.Grind.{common_steps}
use Rattle.unit_duties.specs.declared.stops.Stop.{Stop}
use Rattle.day_reports.proofs.Stopping.{stops_are, stops_known}
use Rattle.day_reports.proofs.duties_report.duties_table.Goals as goal

-- the stops that are told are those of the unit's duty, which are on trips of the day
pub push_duty-requires-clause-trips : goal.push_duty-requires-clause-trips
push_duty-requires-clause-trips c =
    let day = c.args.instance.now in
    let plan = c.args.plan.now in
    let is = stops_are day plan c.loop-number.number c.in_ok-duties.duties c.stops.result.now (omega arith) c.in_ok-duties.ensures.list c.stops.ensures in
    subst (All (λ (stop : Stop). stop.trip < length day.trips)) (sym is) (stops_known day plan c.loop-number.number)

pub loop-number-preserved : goal.loop-number-preserved
loop-number-preserved c =
    let is = stops_are c.args.instance.now c.args.plan.now c.loop-number.number c.in_ok-duties.duties c.stops.result.now (omega arith) c.in_ok-duties.ensures.list c.stops.ensures in
    grind (arith, common_steps, is)
