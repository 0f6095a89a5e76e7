use Rattle.std.proofs.Common.{refl, sym, ◌∙◌, arith}
use Rattle.fleet_check.proofs.Choosing.{all_places, more_there, never, one_more_place, other_length}
use Rattle.fleet_check.proofs.chosen.is_nowhere_above.Goals as goal

pub returns-then-len : goal.returns-then-len
returns-then-len c = (
  (λ told. absurd (never told)),
  (λ below. absurd (other_length c.args.fleet.now c.args.most.now (λ same. c.if-len.true (c.len.ensures ∙ same ∙ sym c.len-2.ensures)) below)),
)

pub returns-then-at : goal.returns-then-at
returns-then-at c = (
  (λ told. absurd (never told)),
  (λ below. absurd (more_there c.args.fleet.now c.args.most.now c.loop-place.place c.at.result c.at-in-loop-place.result c.at.ensures c.at-in-loop-place.ensures c.if-at.true below)),
)

pub loop-place-preserved : goal.loop-place-preserved
loop-place-preserved c =
    one_more_place c.args.fleet.now c.args.most.now c.loop-place.place c.at.result c.at-in-loop-place.result c.at.ensures c.at-in-loop-place.ensures c.if-at.false c.loop-place.invariant

pub returns : goal.returns
returns c = (
  (λ told. all_places c.args.fleet.now c.args.most.now c.loop-place.place (omega (arith, c.len-place-end.ensures, c.loop-place-test.false))
      (sym c.len.ensures ∙ c.if-len.false ∙ c.len-2.ensures) c.loop-place.invariant),
  (λ below. refl),
)
