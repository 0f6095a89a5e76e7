-- What stays and what goes of a list at a turn that keeps so many, or all where there are fewer.
use Rattle.std.proofs.Common.{◌≡◌, ◌≤◌, ◌-◌, ℕ, List, length, take, drop, min, refl, ap, arith}
use Rattle.std.proofs.lemmas.List.{take_min, drop_min, length-take, length-drop}
use Rattle.rules.specs.declared.records.End.{End}
use Rattle.rules.specs.declared.records.End.TheVariants as at
use Rattle.timetable.specs.Turns.{staying, beyond}

module _ {X : Type 0} (whole : List X) (n : ℕ) where
  same_rest : length whole - min n (length whole) ≡ length whole - n
  same_rest = omega arith

  pub staying_least : (end : End) → staying end whole (min n (length whole)) ≡ staying end whole n
  staying_least at.None = refl
  staying_least at.Rear = take_min n whole
  staying_least at.Front = ap (λ (rest : ℕ). drop rest whole) same_rest

  pub beyond_least : (end : End) → beyond end whole (min n (length whole)) ≡ beyond end whole n
  beyond_least at.None = refl
  beyond_least at.Rear = drop_min n whole
  beyond_least at.Front = ap (λ (rest : ℕ). take rest whole) same_rest

  pub few_stay : (most : ℕ) (end : End) → length whole ≤ most → length (staying end whole n) ≤ most
  few_stay most at.None few = few
  few_stay most at.Rear few = let long = length-take n whole in omega arith
  few_stay most at.Front few = let long = length-drop (length whole - n) whole in omega arith
