use Rattle.std.proofs.Common.{ap, arith, ◌∙◌}
use Rattle.urgent_units.proofs.LegLists.{stops_are}
use Rattle.urgent_units.proofs.LegMinutes.{unit_put, unit_left}
use Rattle.urgent_units.proofs.leg_lists.units_of.Goals.{then-is_of_type+in_ok-legs+in_ok-push, else-is_of_type}
use Rattle.urgent_units.proofs.leg_lists.units_of.Goals as goal

pub unit_legs-requires-clause-stops : goal.unit_legs-requires-clause-stops
unit_legs-requires-clause-stops c =
    stops_are c.args.instance.now c.args.plan.now c.loop-number.number _ c.stops.result.now
    (let below = c.loop-number-test.true in let all = c.units-number-end.ensures.value in omega (arith, below, all)) c.in_ok-duties.ensures.list c.stops.ensures

pub loop-number-preserved : goal.loop-number-preserved
loop-number-preserved c = elim c.if-is_of_type.branch [
  | then-is_of_type+in_ok-legs+in_ok-push w ↦
      unit_put c.args.instance.now c.args.plan.now c.args.unit_type c.loop-number.number c.is_of_type.result c.loop-number.units.items c.if-is_of_type.units.items _
      c.is_of_type.ensures w.if-is_of_type.true c.loop-number.invariant (ap (λ units. units.items) w.units-is ∙ w.in_ok-push.ensures.items) w.in_ok-legs.ensures
  | else-is_of_type w ↦
      unit_left c.args.instance.now c.args.plan.now c.args.unit_type c.loop-number.number c.is_of_type.result c.loop-number.units.items c.if-is_of_type.units.items
      c.is_of_type.ensures w.if-is_of_type.false c.loop-number.invariant (ap (λ units. units.items) w.units-is)
]
