-- One change more, and all of them.
use Rattle.std.proofs.Common.{arith}
use Rattle.std.proofs.lemmas.List.{get_or_read}
use Rattle.worked_bounds.proofs.RisingChanges.{all_are, one_more}
use Rattle.worked_bounds.proofs.changed.are_changes.Goals as goal

pub loop-place-preserved : goal.loop-place-preserved
loop-place-preserved c =
    one_more c.args.day.now c.args.changes.now c.loop-place.place c.index-changes-place.result c.loop-place-test.true
    (λ d. get_or_read c.args.changes.now c.loop-place.place c.index-changes-place.result c.loop-place-test.true c.index-changes-place.is d)
    c.loop-place.invariant (c.is_change.ensures.trip c.if-not-is_change.false) (c.is_change.ensures.base c.if-not-is_change.false)
    (c.is_change.ensures.cost c.if-not-is_change.false) (c.is_after.ensures c.if-not-is_after.false)

pub returns : goal.returns
returns c holds =
    all_are c.args.day.now c.args.changes.now c.loop-place.place (omega (arith, c.loop-place-test.false)) c.loop-place.invariant
