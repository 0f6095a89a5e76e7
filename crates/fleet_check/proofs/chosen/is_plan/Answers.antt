use Rattle.std.proofs.Common.{◌≡◌, true, false, refl, sym, ap, ◌∙◌, arith}
use Rattle.timetable.specs.Links.{list_of}
use Rattle.timetable.specs.Plans.{are_units}
use Rattle.fleet_check.proofs.Choosing.{are_a_plan, never, one_more_list, unknown_list}
use Rattle.fleet_check.proofs.chosen.is_plan.Goals as goal

pub returns-then-trips : goal.returns-then-trips
returns-then-trips c = (
  (λ told. absurd (never told)),
  (λ is. absurd (c.if-trips.true (c.trips.ensures.value ∙ is.trips ∙ sym c.trips-2.ensures.value))),
)

pub returns-then-not-are_units : goal.returns-then-not-are_units
returns-then-not-are_units c =
    let unknown : are_units c.args.day.now (list_of c.args.plan.now c.loop-trip.trip) ≡ false =
    ap (are_units c.args.day.now) (sym c.units.ensures.value) ∙ sym c.are_units.ensures ∙ c.if-not-are_units.true in (
      (λ told. absurd (never told)),
      (λ is. absurd (unknown_list c.args.day.now c.args.plan.now c.loop-trip.trip unknown is)),
    )

pub loop-trip-preserved : goal.loop-trip-preserved
loop-trip-preserved c =
    let known : are_units c.args.day.now (list_of c.args.plan.now c.loop-trip.trip) ≡ true =
    ap (are_units c.args.day.now) (sym c.units.ensures.value) ∙ sym c.are_units.ensures ∙ c.if-not-are_units.false in
    one_more_list c.args.day.now c.args.plan.now c.loop-trip.trip c.loop-trip.invariant known

pub returns : goal.returns
returns c = (
  (λ told. are_a_plan c.args.day.now c.args.plan.now c.loop-trip.trip (sym c.trips.ensures.value ∙ c.if-trips.false ∙ c.trips-2.ensures.value)
      (omega (arith, c.loop-trip-test.false, c.trips-trip-end.ensures.value)) c.loop-trip.invariant),
  (λ is. refl),
)
