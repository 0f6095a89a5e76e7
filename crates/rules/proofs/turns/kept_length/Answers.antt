-- A number that doesn't fit is passed over.
use Rattle.std.proofs.Common.{◌∙◌, arith, rules}
use Rattle.rules.specs.Turns.{fits_at}
use Rattle.rules.proofs.Turning.{greatest-less}
use Rattle.rules.proofs.turns.kept_length.Goals as goal

pub loop-stay-preserved : goal.loop-stay-preserved
loop-stay-preserved c = record {
  few = omega (arith, c.loop-stay.invariant.few);
  rest = c.loop-stay.invariant.rest ∙ greatest-less (fits_at c.args.uncouple c.args.couple c.args.arriving.now c.args.departing.now) c.loop-stay.stay (omega (arith, c.loop-stay-test.true)) (search rules);
}
