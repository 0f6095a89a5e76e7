-- The bits below the lowest 0 are 1.
use Rattle.std.proofs.Common.{arith, rules, w64}
use Rattle.std.proofs.lemmas.Nat.Bits.{bit_at-trailing_ones, bit_at_ones}
use Rattle.price_bound.proofs.row_values.low_ones.Goals as goal

pub returns-then-word-eq18446744073709551615-clause-ones : goal.returns-then-word-eq18446744073709551615-clause-ones
returns-then-word-eq18446744073709551615-clause-ones c = search (rules, bit_at_ones 64)

pub returns-clause-ones : goal.returns-clause-ones
returns-clause-ones c = search (rules, bit_at-trailing_ones w64 c.args.word (omega arith))
