-- The passes begin with no values.
use Rattle.std.proofs.Common.{◌∙◌, arith}
use Rattle.price_bound.proofs.PassLoops.{longer_none}
use Rattle.price_bound.proofs.passes.Passes.put.Goals as goal

pub put_longer-requires-clause-longer : goal.put_longer-requires-clause-longer
put_longer-requires-clause-longer c =
    longer_none c.args.self.now c.requires.is c.args.ahead.now c.requires.ahead c.args.end c.requires.end c.clear.new.sums
    (c.clear.ensures.long ∙ c.requires.longer)
    (λ comp within. c.clear.ensures.none comp (omega (arith, within, c.requires.longer)))
