use Rattle.std.proofs.Common.{◌≡◌, ◌≤◌, ◌<◌, ℕ, suc, ◌-◌, ◌∙◌, List, drop, length, reverse, sym, ap, subst, arith}
use Rattle.std.specs.Prelude.{not}
use Rattle.std.specs.List.{All}
use Rattle.timetable.specs.Duties.{duty}
use Rattle.timetable.specs.Links.{given}
use Rattle.timetable.specs.Lists.{count_of, has}
use Rattle.inventory.proofs.OnDuty.{duty_within}
use Rattle.unit_duties.specs.declared.stops.Stop.{Stop}
use Rattle.urgent_units.specs.declared.legs.Leg.{Leg}
use Rattle.urgent_units.specs.LegParts.{with_leg}
use Rattle.urgent_units.specs.Legs.{stays}
use Rattle.urgent_units.proofs.LegLimits.{duty_few}
use Rattle.urgent_units.proofs.LegLists.{all_of_reverse, drop_short, few_trips, legs_from_trip, legs_in, stop_at}
use Rattle.urgent_units.proofs.WishedUnits.{there_is}
use Rattle.urgent_units.proofs.leg_lists.legs_of.Goals as goal

pub add_trip-requires-clause-trip : goal.add_trip-requires-clause-trip
add_trip-requires-clause-trip c =
    let trips : List ℕ = duty c.args.instance.now c.args.plan.now c.args.unit in
    let at = stop_at c.args.instance.now c.args.plan.now c.args.unit c.args.stops.now (c.loop-left.left - 1) c.index-stops-left.result c.requires.stops (let some = c.loop-left-test.true in let within = c.loop-left.invariant.1 in omega (arith, some, within)) c.index-stops-left.is in
    let there : 1 ≤ count_of c.index-stops-left.result.trip trips =
    subst (λ (t : ℕ). 1 ≤ count_of t trips) (sym at.1) (there_is trips (c.loop-left.left - 1) c.index-stops-left.result.trip at.0) in
    subst (λ (stop : Stop). stop.trip < length c.args.instance.now.trips) c.index-stops-left.is
    (duty_within c.args.instance.now c.args.plan.now c.is_sound.ensures.limits c.is_sound.ensures.links c.requires.runs c.args.unit c.index-stops-left.result.trip there)

pub add_trip-requires-clause-few : goal.add_trip-requires-clause-few
add_trip-requires-clause-few c k d below =
    let trips : List ℕ = duty c.args.instance.now c.args.plan.now c.args.unit in
    let left : List ℕ = drop c.loop-left.left trips in
    let most = duty_few c.args.instance.now c.args.plan.now c.is_sound.ensures.limits c.is_sound.ensures.links c.requires.runs 0 c.args.unit in
    let fewer = drop_short c.loop-left.left trips in
    let each = all_of_reverse (λ (leg : Leg). leg.trips ≤ length left) c.loop-left.legs.items
    (subst (All (λ (leg : Leg). leg.trips ≤ length left)) (sym c.loop-left.invariant.0)
    (few_trips c.args.instance.now (stays c.args.instance.now c.args.plan.now c.args.unit) left)) k d below in
    omega (arith, each, fewer, most)

pub loop-left-preserved : goal.loop-left-preserved
loop-left-preserved c =
    let some = c.loop-left-test.true in
    let within = c.loop-left.invariant.1 in
    let next : c.loop-left.left ≡ suc (c.loop-left.left - 1) = omega (arith, some) in
    let at = stop_at c.args.instance.now c.args.plan.now c.args.unit c.args.stops.now (c.loop-left.left - 1) c.index-stops-left.result c.requires.stops (let some = c.loop-left-test.true in let within = c.loop-left.invariant.1 in omega (arith, some, within)) c.index-stops-left.is in (
      c.in_ok-add_trip.ensures
          ∙ ap (λ (stop : Stop). with_leg c.args.instance.now (not (has c.args.unit (given c.args.instance.now c.args.plan.now stop.trip))) stop.trip (reverse c.loop-left.legs.items))
          (sym c.index-stops-left.is)
          ∙ ap (with_leg c.args.instance.now (not (has c.args.unit (given c.args.instance.now c.args.plan.now c.index-stops-left.result.trip))) c.index-stops-left.result.trip)
          (c.loop-left.invariant.0 ∙ ap (λ (n : ℕ). legs_in c.args.instance.now (stays c.args.instance.now c.args.plan.now c.args.unit) (drop n (duty c.args.instance.now c.args.plan.now c.args.unit))) next)
          ∙ sym (legs_from_trip c.args.instance.now c.args.plan.now c.is_sound.ensures.limits c.is_sound.ensures.links c.requires.runs c.args.unit c.requires.unit (c.loop-left.left - 1) c.index-stops-left.result.trip at.0 at.1),
      omega (arith, within),
    )
