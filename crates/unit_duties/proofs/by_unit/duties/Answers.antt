use Rattle.std.proofs.Common.{◌≡◌, ◌∙◌, ℕ, List, take, length, subst, ap}
use Rattle.std.proofs.lemmas.List.{take_all, length-map}
use Rattle.timetable.specs.Day.{unit_count}
use Rattle.timetable.specs.Lists.{below}
use Rattle.inventory.proofs.Named.{length-below}
use Rattle.unit_duties.specs.Stops.{stops_of, duties_of}
use Rattle.unit_duties.proofs.Stopping.{StopsSoFar, stops_are_duties}
use Rattle.unit_duties.proofs.by_unit.duties.Goals as goal

pub returns-clause-list : goal.returns-clause-list
returns-clause-list c =
    let items = c.deref-trip-items.result.now in
    let all : take c.loop-trip.trip-index items ≡ items = take_all c.loop-trip.trip-index items c.loop-trip-test.false in
    let so_far = subst (λ (ts : List ℕ). StopsSoFar c.args.plan.now (unit_count c.args.instance.now) ts c.loop-trip.lists.items) all c.loop-trip.invariant in
    stops_are_duties c.args.instance.now c.args.plan.now items c.loop-trip.lists.items (c.deref-trip-items.ensures.value ∙ c.in_ok-order.ensures.order) so_far

pub returns-clause-each : goal.returns-clause-each
unfolding duties_of
returns-clause-each c =
    let units = unit_count c.args.instance.now in
    ap length (returns-clause-list c) ∙ length-map (below units) (stops_of c.args.instance.now c.args.plan.now) ∙ length-below units
