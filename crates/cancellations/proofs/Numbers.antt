-- How many numbers the trips of a later day have.
use Rattle.std.proofs.Common.{◌≡◌, ℕ, ◌+◌, List, [], ◌∷◌, length, Bool, true, false, refl, arith}
use Rattle.std.specs.Prelude.{if◌then◌else◌}
use Rattle.timetable.specs.Day.{Day}
use Rattle.timetable.specs.DerivedDays.{left_from, old_numbers, without_trips}
use Rattle.timetable.specs.Lists.{has, listed}
use Rattle.timetable.proofs.Listing.{length-listed}

-- as many are left of lists that are as long
left_long : {X Y : Type 0} (gone : List ℕ) (n : ℕ) (xs : List X) (ys : List Y) → length xs ≡ length ys
    → length (left_from gone n xs) ≡ length (left_from gone n ys)
left_long gone n [] [] long = refl
left_long gone n [] (y ∷ ys) long = absurd (omega (arith, long))
left_long gone n (x ∷ xs) [] long = absurd (omega (arith, long))
left_long gone n (x ∷ xs) (y ∷ ys) long =
    let rest : length (left_from gone (n + 1) xs) ≡ length (left_from gone (n + 1) ys) = left_long gone (n + 1) xs ys (omega (arith, long)) in
    by (has n gone) rest
  where
    by : (b : Bool) → length (left_from gone (n + 1) xs) ≡ length (left_from gone (n + 1) ys)
        → length (if b then left_from gone (n + 1) xs else x ∷ left_from gone (n + 1) xs)
        ≡ length (if b then left_from gone (n + 1) ys else y ∷ left_from gone (n + 1) ys)
    by true rest = rest
    by false rest = omega (arith, rest)

-- each trip that is left has a number that it had
pub as_many_left : (day : Day) (gone : List ℕ) → length (old_numbers day gone) ≡ length (without_trips gone day).trips
as_many_left day gone = left_long gone 0 (listed (λ k. k) (length day.trips)) day.trips (length-listed (λ k. k) (length day.trips))
