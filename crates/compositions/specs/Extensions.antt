-- How a composition is made longer.
use Rattle.std.specs.Prelude.{ℕ, zero, suc, Bool, cond, List, [], ◌∷◌, ◌++◌}

-- a composition, where it passes a test
abbrev pub where_it_fits : (List ℕ → Bool) → List ℕ → List (List ℕ)
where_it_fits fits ms = cond (fits ms) (ms ∷ []) []

-- a front with one more unit at its rear, of each of the first n types in turn, where that passes a test
abbrev pub extensions : (List ℕ → Bool) → ℕ → List ℕ → List (List ℕ)
extensions fits zero front = []
extensions fits (suc n) front = extensions fits n front ++ where_it_fits fits (front ++ n ∷ [])
