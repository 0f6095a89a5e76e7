-- The text of a minute is read as the same minute.
use Rattle.std.proofs.Common.{◌≡◌, ℕ, ◌/◌, ◌%◌, ◌<◌, true, arith}
use Rattle.std.proofs.lemmas.Bool.Decides.{nat_tests}
use Rattle.rail_base.specs.Times.{two_digits}
use Rattle.rail_csv.specs.Fields.{are_digits, number_of}
use Rattle.day_reports.specs.Laws.{TimesAreReadAgain}

-- two digits spell their number
spelled : (n : ℕ) → number_of (two_digits n) ≡ n
unfolding number_of
spelled n = omega arith

are_two_digits : (n : ℕ) → n < 100 → are_digits (two_digits n) ≡ true
are_two_digits n below = grind (arith, nat_tests)

pub times_are_read_again : TimesAreReadAgain
times_are_read_again minute below =
    let hour = spelled (minute / 60) in
    let rest = spelled (minute % 60) in
    record {
      accepted = grind (arith, nat_tests, are_two_digits (minute / 60) (omega arith), are_two_digits (minute % 60) (omega arith), hour, rest);
      same = omega (arith, hour, rest);
    }
