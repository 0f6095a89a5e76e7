use Rattle.std.proofs.Common.{◌≡◌, ℕ, ◌&&◌, sym, ap, ◌∙◌, arith, List}
use Rattle.std.specs.Prelude.{◌==◌}
use Rattle.timetable.specs.Day.{type_of, unit_count}
use Rattle.timetable.specs.Lists.{count_below}
use Rattle.day_simulator.specs.declared.events.UnitLocation.{UnitLocation}
use Rattle.day_simulator.specs.State.{location_of, is_in_yard}
use Rattle.day_simulator.specs.Finish.{yard_count}
use Rattle.day_simulator.proofs.Missing.{place_read}
use Rattle.day_simulator.proofs.Counting.{counted, not_counted}
use Rattle.day_simulator.proofs.balance.yard_count.Goals as goal
use Rattle.day_simulator.proofs.balance.yard_count.Goals.{then-is_counted, else-is_counted}

pub loop-number-preserved : goal.loop-number-preserved
loop-number-preserved c =
    let day = c.args.instance.now in
    let ps = c.args.locations.now in
    let n = c.loop-number.number in
    let here = place_read ps n c.place.result c.index-locations-place.result c.place.ensures.number (omega (arith, c.requires, c.units-number-end.ensures.value, c.place.ensures.number)) c.index-locations-place.is in
    let p = λ (u : ℕ). is_in_yard c.args.station (location_of ps u) && (type_of day u == c.args.unit_type) in
    let test : p n ≡ c.is_counted.result = ap (λ (q : UnitLocation). is_in_yard c.args.station q && (type_of day n == c.args.unit_type)) here ∙ sym c.is_counted.ensures in
    elim c.if-is_counted.branch [
      | then-is_counted w ↦ record {
        so_far = w.count-is ∙ counted p n c.loop-number.count c.loop-number.invariant.so_far (test ∙ w.if-is_counted.true);
        few = omega (arith, w.count-is);
      }
      | else-is_counted w ↦ record {
        so_far = w.count-is ∙ not_counted p n c.loop-number.count c.loop-number.invariant.so_far (test ∙ w.if-is_counted.false);
        few = omega (arith, w.count-is);
      }
    ]

pub returns : goal.returns
unfolding yard_count
returns c = λ state same.
    let whole : c.loop-number.number ≡ unit_count c.args.instance.now = omega (arith, c.units-number-end.ensures.value) in
    c.loop-number.invariant.so_far
    ∙ ap (λ (n : ℕ). count_below (λ u. is_in_yard c.args.station (location_of c.args.locations.now u) && (type_of c.args.instance.now u == c.args.unit_type)) n) whole
    ∙ ap (λ (ps : List UnitLocation). count_below (λ u. is_in_yard c.args.station (location_of ps u) && (type_of c.args.instance.now u == c.args.unit_type)) (unit_count c.args.instance.now)) (sym same)
