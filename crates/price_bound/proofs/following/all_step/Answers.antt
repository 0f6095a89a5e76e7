use Rattle.std.proofs.Common.{◌<◌, length, refl, sym, ◌∙◌, arith}
use Rattle.std.proofs.lemmas.Option.{slice_get_within}
use Rattle.price_bound.proofs.Steps.{entry_below}
use Rattle.price_bound.proofs.following.all_step.Goals as goal

pub returns-then-not-is_step : goal.returns-then-not-is_step
returns-then-not-is_step c =
    let below : c.loop-link.link < length c.args.instance.now.links = omega arith in
    let here = entry_below c.args.instance.now.links c.loop-link.link below in
    (λ yes. absurd cc, λ all. sym c.if-not-is_step.true ∙ (c.is_step.ensures here.0 here.1).1 (all c.loop-link.link here.0 here.1))

pub returns : goal.returns
returns c = (
  λ yes l link at.
      let below : l < length c.args.instance.now.links = slice_get_within c.args.instance.now.links l link at in
      c.loop-link.invariant l link (omega (arith, below)) at,
  λ all. refl,
)
