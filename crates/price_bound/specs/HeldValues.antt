-- Values that stand for cells: a cell's value, and where there is none a number at a limit or above it.
use Rattle.std.specs.Prelude.{ℕ, ◌≡◌, ◌<◌, ◌⊎◌, List, get_or, Option, Some, None, ℤ, pos, ◌≤ℤ◌}
use Rattle.price_bound.specs.declared.cells.Cell.{Cell}

-- what stands for no cell, and what no value of a cell comes to
abbrev pub no_value : ℤ
no_value = pos 9100000000000000000

abbrev pub least_none : ℤ
least_none = pos 9050000000000000000

abbrev pub HoldsCell : ℤ → ℤ → Option Cell → Type 0
HoldsCell limit value None = limit ≤ℤ value
HoldsCell limit value (Some cell) = value ≡ cell.value

-- each number below n has a value that stands for a cell of a row
abbrev pub HoldsRow : ℤ → ℕ → (ℕ → ℤ) → List (Option Cell) → Type 0
HoldsRow limit n value row = (comp : ℕ) → comp < n → HoldsCell limit (value comp) (get_or row comp None)

-- the least of some values, or a number at a limit or above it, which none of them is below
pub record IsLeastOf (Has : ℤ → Type 0) (limit least : ℤ) : Type 0 where
  pub reached : (limit ≤ℤ least) ⊎ Has least
  pub below : (value : ℤ) → Has value → least ≤ℤ value
