-- One change more.
use Rattle.std.proofs.Common.{◌<◌, subst}
use Rattle.std.proofs.lemmas.List.Elements.{All-more}
use Rattle.price_bound.specs.declared.changes.Change.{Change}
use Rattle.worked_bounds.proofs.changed.is_after.Goals as goal

pub loop-place-preserved : goal.loop-place-preserved
loop-place-preserved c =
    All-more (λ (other : Change). other.trip < c.args.change.now.trip) c.args.others.now c.loop-place.place c.index-others-place.result
    c.loop-place-test.true c.loop-place.invariant
    (subst (λ (other : Change). other.trip < c.args.change.now.trip) c.index-others-place.is (c.is_earlier.ensures c.if-not-is_earlier.false))
