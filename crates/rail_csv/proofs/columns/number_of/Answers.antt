use Rattle.std.proofs.Common.{sym, ◌∙◌, arith}
use Rattle.rail_csv.proofs.Numerals.{value_fits}
use Rattle.rail_csv.proofs.columns.number_of.Goals as goal

pub overflow_cast-result : goal.overflow_cast-result
overflow_cast-result c =
    omega (arith, value_fits c.args.text.now c.in-Some.value (sym c.digits_value.ensures ∙ c.in-Some.is) (omega (arith, c.if-text-gt-MAX_NUMBER_DIGITS.false)))
