-- The members that the words so far tell of have their sums.
use Rattle.std.proofs.Common.{◌*◌}
use Rattle.branch_tree.specs.Sets.{is_member}
use Rattle.price_bound.specs.Credits.{AreMembersPut}
use Rattle.price_bound.proofs.credits.UnitSums.put_members.Given as goal

abbrev pub invariant-loop-place : goal.invariant-loop-place
invariant-loop-place l =
    AreMembersPut l.instance l.prices.gives.now l.prices.takes.now l.trip (is_member l.set) (l.place * 64) l.fn.self l.self
