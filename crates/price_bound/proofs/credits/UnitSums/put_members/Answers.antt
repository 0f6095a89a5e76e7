-- The members that one word more tells of have their sums.
use Rattle.std.proofs.Common.{◌≡◌, ◌+◌, ◌*◌, ℕ, subst, arith}
use Rattle.branch_tree.specs.Sets.{is_member}
use Rattle.price_bound.specs.Credits.{AreMembersPut}
use Rattle.price_bound.proofs.credits.UnitSums.put_members.Goals as goal

pub loop-place-preserved : goal.loop-place-preserved
loop-place-preserved c =
    let next : c.loop-place.place * 64 + 64 ≡ (c.loop-place.place + 1) * 64 = omega arith in
    subst (λ (comps : ℕ). AreMembersPut c.args.instance.now c.args.prices.now.gives.now c.args.prices.now.takes.now c.args.trip
    (is_member c.args.set.now) comps c.args.self.now c.put_word.new.self) next
    (c.put_word.ensures c.args.self.now c.loop-place.invariant)
