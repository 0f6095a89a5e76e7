use Rattle.std.proofs.Common.{ℕ, List, length, ap, arith}
use Rattle.urgent_units.proofs.Moments.{earlier_within}
use Rattle.urgent_units.proofs.legs.Legs.moment_of.Goals as goal

pub overflow_cast-result : goal.overflow_cast-result
overflow_cast-result c =
    omega (arith, c.place_of.ensures, earlier_within c.args.minute c.minutes_of.result.now, c.minutes_of.ensures.few)

pub overflow_add-result : goal.overflow_add-result
overflow_add-result c =
    omega (arith, c.place_of.ensures, earlier_within c.args.minute c.minutes_of.result.now, c.minutes_of.ensures.few)

pub returns-clause-within : goal.returns-clause-within
returns-clause-within c =
    let same = ap (λ (minutes : List ℕ). length minutes) c.minutes_of.ensures.value in
    omega (arith, c.place_of.ensures, earlier_within c.args.minute c.minutes_of.result.now, same)
