use Rattle.std.proofs.Common.{arith, ap, pos}
use Rattle.branch_tree.proofs.Rising.{same_read}
use Rattle.advisors.proofs.EntryLists.{divided-at}
use Rattle.advisors.proofs.subgradient.count_below.Goals as goal

pub returns-then-from-index : goal.returns-then-from-index
returns-then-from-index c =
    divided-at c.args.entries.now c.args.index c.loop-place.place c.requires (omega (arith, c.loop-place-test.true)) c.loop-place.invariant
    (λ inside d. omega (arith, c.if-from-index.true, c.from.ensures, ap (λ e. e.index) (same_read c.args.entries.now c.loop-place.place d (record { index = 0; value = pos 0 }) inside)))

pub returns : goal.returns
returns c =
    divided-at c.args.entries.now c.args.index _ c.requires (omega arith) (λ k d before. c.loop-place.invariant k d (omega (arith, before, c.loop-place-test.false)))
    (λ inside d. absurd (omega (arith, inside)))
