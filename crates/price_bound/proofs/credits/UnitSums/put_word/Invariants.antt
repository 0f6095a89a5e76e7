-- The members so far have their sums, and the bits of the others are left.
use Rattle.std.proofs.Common.{◌≡◌, ◌-◌, ◌*◌, ◌/◌, ◌^◌}
use Rattle.branch_tree.specs.Sets.{is_member}
use Rattle.price_bound.specs.declared.credits.UnitSums.{UnitSums}
use Rattle.price_bound.specs.Credits.{AreMembersPut}
use Rattle.price_bound.proofs.credits.UnitSums.put_word.Given as goal

abbrev pub invariant-loop-comp : goal.invariant-loop-comp
invariant-loop-comp l = record {
  put : (sums : UnitSums)
      → AreMembersPut l.instance l.prices.gives.now l.prices.takes.now l.trip (is_member l.set) (l.place * 64) sums l.fn.self
      → AreMembersPut l.instance l.prices.gives.now l.prices.takes.now l.trip (is_member l.set) l.comp sums l.self;
  left : l.left ≡ l.word / 2 ^ (l.comp - l.place * 64);
}
