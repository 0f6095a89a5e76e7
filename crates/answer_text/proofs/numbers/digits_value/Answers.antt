use Rattle.std.proofs.Common.{◌∙◌, get_or, sym, refl, arith}
use Rattle.std.proofs.lemmas.Int.Digits.{digits_value_more}
use Rattle.std.proofs.lemmas.Str.{digit_value_digit}
use Rattle.std.proofs.lemmas.Str.Parse.{digit_from_value}
use Rattle.answer_text.proofs.Digits.{room, digits_more, not_digits}
use Rattle.answer_text.proofs.numbers.digits_value.Goals as goal

pub overflow_mul-value : goal.overflow_mul-value
overflow_mul-value c =
    let small = room c.args.word.now c.loop-byte.byte-index c.loop-byte-test.true c.requires c.loop-byte.invariant.digits in
    omega (arith, c.loop-byte.invariant.value, small)

pub overflow_add-value : goal.overflow_add-value
overflow_add-value c =
    let small = room c.args.word.now c.loop-byte.byte-index c.loop-byte-test.true c.requires c.loop-byte.invariant.digits in
    omega (arith, c.loop-byte.invariant.value, small)

pub loop-byte-preserved : goal.loop-byte-preserved
loop-byte-preserved c =
    let word = c.args.word.now in
    let place = c.loop-byte.byte-index in
    let digit = get_or word place 0 in
    let small = digit_value_digit digit (digit_from_value digit c.if-not-is_ascii_digit.ensures.bound) in
    record {
      value = omega (arith, c.from.ensures, c.loop-byte.invariant.value, digits_value_more 10 word place c.loop-byte-test.true, small);
      digits = digits_more word place c.loop-byte-test.true c.loop-byte.invariant.digits (sym c.is_ascii_digit.ensures.value ∙ c.if-not-is_ascii_digit.false);
    }

pub returns-then-not-is_ascii_digit : goal.returns-then-not-is_ascii_digit
returns-then-not-is_ascii_digit c =
    rw (not_digits c.args.word.now c.loop-byte.byte-index c.loop-byte-test.true (sym c.is_ascii_digit.ensures.value ∙ c.if-not-is_ascii_digit.true)) refl
