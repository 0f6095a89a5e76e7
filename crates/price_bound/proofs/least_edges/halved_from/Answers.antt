-- The half that is left out lies on one side.
use Rattle.std.proofs.Common.{◌≡◌, ◌<◌, ◌+◌, ◌/◌, ℕ, length, get_or, subst, arith}
use Rattle.transitions.specs.declared.edge.Edge.{Edge}
use Rattle.price_bound.specs.EdgeGroups.{IsBelow, IsNotBelow}
use Rattle.price_bound.proofs.EdgeGroups.{all_below, none_below}
use Rattle.price_bound.proofs.least_edges.halved_from.Goals as goal

pub loop-low-preserved-then-is_below : goal.loop-low-preserved-then-is_below
loop-low-preserved-then-is_below c =
    let middle : ℕ = (c.loop-low.low + c.loop-low.high) / 2 in
    let edge : Edge = c.index-edges-middle.result in
    let at : edge ≡ get_or c.args.edges.now middle edge = c.index-edges-middle.is in
    let within : middle < length c.args.edges.now = omega (arith, c.loop-low-test.true, c.loop-low.invariant.within) in
    let low : IsBelow (get_or c.args.edges.now middle edge) c.args.comp c.args.to =
    subst (λ (x : Edge). IsBelow x c.args.comp c.args.to) at (c.is_below.ensures.below c.if-is_below.true) in
    record {
      order = omega (arith, c.loop-low-test.true);
      within = c.loop-low.invariant.within;
      before = all_below c.args.edges.now c.args.comp c.args.to middle edge c.requires within low;
      after = c.loop-low.invariant.after;
    }

pub loop-low-preserved : goal.loop-low-preserved
loop-low-preserved c =
    let middle : ℕ = (c.loop-low.low + c.loop-low.high) / 2 in
    let edge : Edge = c.index-edges-middle.result in
    let at : edge ≡ get_or c.args.edges.now middle edge = c.index-edges-middle.is in
    let within : middle < length c.args.edges.now = omega (arith, c.loop-low-test.true, c.loop-low.invariant.within) in
    let high : IsNotBelow (get_or c.args.edges.now middle edge) c.args.comp c.args.to =
    subst (λ (x : Edge). IsNotBelow x c.args.comp c.args.to) at (c.is_below.ensures.not_below c.if-is_below.false) in
    record {
      order = omega (arith, c.loop-low-test.true);
      within = omega (arith, within);
      before = c.loop-low.invariant.before;
      after = none_below c.args.edges.now c.args.comp c.args.to middle edge c.requires within high;
    }
