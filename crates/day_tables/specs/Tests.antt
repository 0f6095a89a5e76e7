-- Tests in their order: that none failed, or the refusal of the first that did.
use Rattle.std.specs.Prelude.{ℕ, ◌≡◌, ◌⊎◌, List, [], ◌∷◌, ◌++◌, ⊤}
use Rattle.day_tables.specs.Rowwise.{row_after}

-- a test: the refusal that it gives, and what is so where it fails
pub record Test (E : Type 0) : Type 1 where
  pub refusal : E
  pub fault : Type 0

infixl 80 ◌when◌
abbrev pub ◌when◌ : {E : Type 0} → E → Type 0 → Test E
refusal when fault = record { refusal = refusal; fault = fault }

abbrev pub NoneFailed : {E : Type 0} → List (Test E) → Type 0
NoneFailed [] = ⊤
NoneFailed (test ∷ tests) = (¬ test.fault) × NoneFailed tests

-- the refusal is that of the first test that failed
abbrev pub IsFirstFailed : {E : Type 0} → List (Test E) → E → Type 0
IsFirstFailed [] refusal = ⊥
IsFirstFailed (test ∷ tests) refusal =
    (test.fault × (refusal ≡ test.refusal)) ⊎ ((¬ test.fault) × IsFirstFailed tests refusal)

-- the tests of rows, one row after another: those of a row go by its number, counted from 1, and the rows before it
abbrev pub row_tests : {X E : Type 0} → (ℕ → List X → X → List (Test E)) → List X → List X → List (Test E)
row_tests tests_of before [] = []
row_tests tests_of before (row ∷ rows) =
    tests_of (row_after before) before row ++ row_tests tests_of (before ++ row ∷ []) rows
