-- By the first change.
use Rattle.std.proofs.Common.{rules, ◌≡◌, ◌≢◌, Some, slice_get}
use Rattle.price_bound.proofs.ChangedCosts.{own_by_first, own_by_later}
use Rattle.price_bound.proofs.changes.own_count.Goals as goal

pub returns-then-eq : goal.returns-then-eq
returns-then-eq c =
    let some : slice_get c.args.changes.now 0 ≡ Some c.in-Some.change.now = search rules in
    let same : c.in-Some.change.now.trip ≡ c.args.trip = search rules in
    own_by_first c.args.changes.now c.args.trip c.in-Some.change.now c.requires some same

pub returns : goal.returns
returns c =
    let some : slice_get c.args.changes.now 0 ≡ Some c.in-Some.change.now = search rules in
    let differ : c.in-Some.change.now.trip ≢ c.args.trip = search rules in
    own_by_later c.args.changes.now c.args.trip c.in-Some.change.now c.requires some differ
