-- What a checker is made for.
use Rattle.std.specs.Prelude.{ℕ}

-- trees of at most so many nodes, and problems of so many trips
pub record Sizes : Type 0 where
  pub nodes : ℕ
  pub trips : ℕ
