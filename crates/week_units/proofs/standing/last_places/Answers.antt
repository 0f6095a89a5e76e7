use Rattle.std.proofs.Common.{◌≡◌, ◌∙◌, ℕ, suc, ◌+◌, ◌<◌, List, [], ◌∷◌, ◌++◌, All, ap, arith, length, map, subst, sym}
use Rattle.timetable.specs.Day.{home_of}
use Rattle.timetable.specs.Duties.{ends_at, last_place}
use Rattle.timetable.specs.Lists.{listed}
use Rattle.unit_duties.specs.declared.stops.Stop.{Stop}
use Rattle.unit_duties.specs.Stops.{stops_of}
use Rattle.week_units.proofs.PlacedUnits.{ends_last, home_is, stops_are, stops_known}
use Rattle.week_units.proofs.standing.last_places.Goals as goal

pub end_of-requires : goal.end_of-requires
end_of-requires c =
    let stops_is : c.stops.result.now ≡ stops_of c.args.instance.now c.args.plan.now c.loop-unit.unit =
    stops_are c.args.instance.now c.args.plan.now c.loop-unit.unit c.in_ok-duties.duties c.stops.result.now
    (omega arith) c.in_ok-duties.ensures.list c.stops.ensures in
    subst (λ (stops : List Stop). All (λ stop. stop.trip < length c.args.instance.now.trips) stops) (sym stops_is)
    (stops_known c.args.instance.now c.args.plan.now c.loop-unit.unit)

pub loop-unit-preserved : goal.loop-unit-preserved
loop-unit-preserved c =
    let day = c.args.instance.now in
    let plan = c.args.plan.now in
    let u = c.loop-unit.unit in
    let stops_is : c.stops.result.now ≡ stops_of day plan u =
    stops_are day plan u c.in_ok-duties.duties c.stops.result.now (omega arith) c.in_ok-duties.ensures.list
    c.stops.ensures in
    let end_is : c.end_of.result ≡ last_place day plan u =
    c.end_of.ensures
    ∙ ap (λ (s : ℕ). ends_at day s (map (λ stop. stop.trip) c.stops.result.now)) (home_is day u c.unit.result c.unit.ensures.value)
    ∙ ap (λ (ss : List Stop). ends_at day (home_of day u) (map (λ stop. stop.trip) ss)) stops_is
    ∙ ends_last day plan u in
    let next : suc u ≡ u + 1 = omega arith in
    c.in_ok-push.ensures.items
    ∙ ap (λ (ps : List ℕ). ps ++ c.end_of.result ∷ []) c.loop-unit.invariant
    ∙ ap (λ (p : ℕ). listed (last_place day plan) u ++ p ∷ []) end_is
    ∙ ap (listed (last_place day plan)) next
