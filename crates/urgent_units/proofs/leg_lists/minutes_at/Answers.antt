use Rattle.std.proofs.Common.{◌≡◌, ℕ, suc, ◌-◌, ◌∙◌, [], List, drop, sym, ap, arith}
use Rattle.std.specs.List.{flat_map}
use Rattle.urgent_units.specs.declared.legs.Leg.{Leg}
use Rattle.urgent_units.specs.declared.legs.UnitLegs.{UnitLegs}
use Rattle.urgent_units.specs.Moments.{minutes_at, with_legs}
use Rattle.urgent_units.proofs.LegMinutes.{units_from_place}
use Rattle.urgent_units.proofs.leg_lists.minutes_at.Goals as goal

pub loop-left-preserved : goal.loop-left-preserved
loop-left-preserved c =
    let some = c.loop-left-test.true in
    let within = c.loop-left.invariant.left in
    let next : c.loop-left.left ≡ suc (c.loop-left.left - 1) = omega (arith, some) in
    record {
      items =
          c.in_ok-add_legs.ensures.items
          ∙ ap (λ (legs : List Leg). with_legs c.args.station legs c.loop-left.minutes.items) c.items.ensures
          ∙ ap (λ (unit : UnitLegs). with_legs c.args.station unit.legs c.loop-left.minutes.items) (sym c.index-units-left.is)
          ∙ ap (with_legs c.args.station c.index-units-left.result.legs)
          (c.loop-left.invariant.items ∙ ap (λ (n : ℕ). with_legs c.args.station (flat_map (λ unit. unit.legs) (drop n c.args.units.now)) []) next)
          ∙ sym (units_from_place c.args.station c.args.units.now (c.loop-left.left - 1) c.index-units-left.result (omega (arith, some, within)) c.index-units-left.is);
      rise = c.in_ok-add_legs.ensures.rise;
      left = omega (arith, within);
    }

pub returns : goal.returns
unfolding minutes_at
returns c stations =
    let none : c.loop-left.left ≡ 0 = (let h = c.loop-left-test.false in omega (arith, h)) in
    c.loop-left.invariant.items ∙ ap (λ (n : ℕ). with_legs c.args.station (flat_map (λ unit. unit.legs) (drop n c.args.units.now)) []) none
