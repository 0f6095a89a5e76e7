-- Sums of integers over a list.
use Rattle.std.specs.Prelude.{List, [], ◌∷◌, ℤ, pos, ◌+ℤ◌}

-- the sum of f over the members
abbrev pub int_sum : {X : Type 0} → (X → ℤ) → List X → ℤ
int_sum f [] = pos 0
int_sum f (x ∷ xs) = f x +ℤ int_sum f xs
