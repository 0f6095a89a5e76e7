-- Past the last amount there is 0.
use Rattle.std.proofs.Common.{inl, inr, pos, arith}
use Rattle.std.proofs.Math.ListN.{get_or-eq_default}
use Rattle.std.proofs.lemmas.Bool.{cases_lt}
use Rattle.price_bound.proofs.credits.is_free.Goals as goal

pub returns : goal.returns
returns c m place = elim (cases_lt place c.loop-place.place) [
  | inl below ↦ c.loop-place.invariant place below
  | inr past ↦ get_or-eq_default c.args.amounts.now (pos 0) (omega (arith, past, c.loop-place-test.false))
]
