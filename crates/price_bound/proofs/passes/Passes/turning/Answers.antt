-- The least of the three.
use Rattle.std.proofs.Common.{◌≡◌, ℤ, ◌+ℤ◌, ◌-ℤ◌, sym, subst, arith}
use Rattle.std.proofs.lemmas.Int.{ints}
use Rattle.price_bound.specs.CellSizes.{IsSmall}
use Rattle.price_bound.specs.PassValues.{value_at}
use Rattle.price_bound.proofs.PassLoops.{lower_small, off_fits, on_fits}
use Rattle.price_bound.proofs.passes.Passes.turning.Goals as goal

swapped : (a b c : ℤ) → c ≡ a +ℤ b → c ≡ b +ℤ a
swapped a b c e = omega (arith, ints, e)

pub raised-changed-requires-clause-value : goal.raised-changed-requires-clause-value
raised-changed-requires-clause-value c =
    let off : c.lessened-off.result.0 ≡ (c.args.fewer.0 -ℤ value_at c.args.self.now.credits.now c.args.comp) = cc in
    let on : c.lessened-on.result.0 ≡ (value_at c.args.longer.now c.args.comp -ℤ value_at c.args.self.now.debits.now c.args.comp) = cc in
    subst (IsSmall 9112000000000000000) (sym c.lower.ensures)
    (lower_small 9112000000000000000 c.lessened-off.result.0 c.lessened-on.result.0
    (off_fits c.args.self.now c.requires.is c.args.ahead.now c.requires.ahead c.args.comp c.requires.comp c.args.fewer.0 c.lessened-off.result.0
    c.requires.fewer off)
    (on_fits c.args.self.now c.requires.is c.args.ahead.now c.requires.ahead c.args.comp c.requires.comp
    (value_at c.args.longer.now c.args.comp) c.lessened-on.result.0 (c.requires.longer.small c.args.comp (omega arith)) on))

pub returns : goal.returns
returns c =
    let changed : c.raised-changed.result.0 ≡ (c.args.self.now.shunting.0 +ℤ c.lower.result.0) =
    swapped c.lower.result.0 c.args.self.now.shunting.0 c.raised-changed.result.0 c.raised-changed.ensures in
    cc
