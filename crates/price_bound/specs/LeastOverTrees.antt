-- Least values over the numbers of a tree.
use Rattle.std.specs.Prelude.{ℕ, ◌≡◌, ◌<◌, ◌≤◌, ◌⊎◌, if◌then◌else◌, int_lt, ℤ, ◌≤ℤ◌}

-- the first of two values, unless the other is lower
abbrev pub lower : ℤ → ℤ → ℤ
lower value other = if int_lt other value then other else value

-- no value is lower than this one, which is that of a number, or is not below none
pub record IsLeastOver (Over : ℕ → Type 0) (value : ℕ → ℤ) (none least : ℤ) : Type 0 where
  pub reached : (none ≤ℤ least) ⊎ ((a : ℕ) × Over a × (value a ≡ least))
  pub below : (a : ℕ) → Over a → least ≤ℤ value a

-- a number is made of one from a place on, whose rest is this one
abbrev pub IsOver : (ℕ → ℕ → Type 0) → (ℕ → ℕ) → ℕ → ℕ → ℕ → ℕ → Type 0
IsOver Of rest n from p c = (q : ℕ) × (from ≤ q) × (q < n) × (rest q ≡ p) × Of c q
