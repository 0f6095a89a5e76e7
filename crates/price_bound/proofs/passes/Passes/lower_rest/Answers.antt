-- The rest's value is lowered.
use Rattle.std.proofs.Common.{◌≡◌, ◌+ℤ◌, set}
use Rattle.price_bound.specs.LeastOverTrees.{lower}
use Rattle.price_bound.specs.CompositionTrees.{place_at}
use Rattle.price_bound.specs.PassValues.{value_at}
use Rattle.price_bound.proofs.PassLoops.{longer_one}
use Rattle.price_bound.proofs.passes.Passes.lower_rest.Goals as goal

pub returns : goal.returns
returns c =
    let made : c.put_value.new.values
    ≡ set c.args.longer.now (place_at c.args.self.now.longer.now c.args.comp)
    (lower (value_at c.args.longer.now (place_at c.args.self.now.longer.now c.args.comp))
    (lower (value_at c.args.longer.now c.args.comp)
    (value_at c.args.ahead.now c.args.comp +ℤ value_at c.args.self.now.debits.now c.args.comp))) = cc in
    longer_one c.args.self.now c.requires.is c.args.ahead.now c.requires.ahead c.args.comp c.requires.comp c.args.longer.now
    c.put_value.new.values c.requires.longer made
