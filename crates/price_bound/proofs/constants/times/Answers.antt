-- A product of small numbers.
use Rattle.std.proofs.Common.{◌≤◌, ◌^◌, ◌*◌, ℤ, ◌*ℤ◌, FitsSigned, sym, subst, arith}
use Rattle.std.specs.Int.{w128}
use Rattle.std.specs.Prelude.{unsigned_abs}
use Rattle.rail_base.specs.declared.limits.TheConstants.{MAX_MULTIPLIER}
use Rattle.price_bound.specs.CellSizes.{IsSmall}
use Rattle.price_bound.proofs.Adding.{small_by_size}
use Rattle.price_bound.proofs.Pricing.{factors_are, product_fits, product_is, size_of_product, size_within}
use Rattle.price_bound.proofs.constants.times.Goals as goal

pub overflow_mul-result : goal.overflow_mul-result
overflow_mul-result c =
    let units : unsigned_abs c.args.units.0 ≤ 2 ^ 32 =
    size_within c.args.units.0 (2 ^ 32) c.requires.units.above c.requires.units.below in
    let few : unsigned_abs c.args.units.0 ≤ 2 ^ 64 = omega (arith, units) in
    subst (λ (z : ℤ). FitsSigned w128 z)
    (sym (factors_are c.args.value c.args.units.0 c.requires.size few c.from.result c.from.ensures))
    (product_fits c.args.value c.args.units.0 c.requires.size few)

pub returns-clause-value : goal.returns-clause-value
returns-clause-value c =
    let units : unsigned_abs c.args.units.0 ≤ 2 ^ 32 =
    size_within c.args.units.0 (2 ^ 32) c.requires.units.above c.requires.units.below in
    product_is c.args.value c.args.units.0 c.requires.size (omega (arith, units)) c.from.result c.from.ensures

pub returns-clause-small : goal.returns-clause-small
returns-clause-small c =
    let units : unsigned_abs c.args.units.0 ≤ 2 ^ 32 =
    size_within c.args.units.0 (2 ^ 32) c.requires.units.above c.requires.units.below in
    let size : unsigned_abs (c.args.value *ℤ c.args.units.0) ≤ MAX_MULTIPLIER * 2 ^ 32 =
    size_of_product c.args.value c.args.units.0 MAX_MULTIPLIER (2 ^ 32) c.requires.size units in
    subst (IsSmall (MAX_MULTIPLIER * 2 ^ 32))
    (sym (product_is c.args.value c.args.units.0 c.requires.size (omega (arith, units)) c.from.result c.from.ensures))
    (small_by_size (MAX_MULTIPLIER * 2 ^ 32) (c.args.value *ℤ c.args.units.0) size)
