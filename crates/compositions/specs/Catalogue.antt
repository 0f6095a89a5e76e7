-- The catalogue: all compositions that fit, in one order.
use Rattle.std.specs.Prelude.{ℕ, zero, suc, Bool, false, ◌&&◌, ◌||◌, ◌==◌, IsTrue, List, [], ◌∷◌, ◌++◌, length, nat_lt}
use Rattle.std.specs.Prelude.{filter, All, AllPairs, Contains}
use Rattle.std.specs.List.{flat_map}
use Rattle.rail_base.specs.declared.limits.TheConstants.{MAX_COMPOSITION_UNITS}
use Rattle.rules.specs.declared.records.UnitType.{UnitType}
use Rattle.compositions.specs.Composition.{fits_in}

-- from the front, the first type numbers that differ are the lower and the higher one
abbrev pub is_lower : List ℕ → List ℕ → Bool
is_lower [] ns = false
is_lower (m ∷ ms) [] = false
is_lower (m ∷ ms) (n ∷ ns) = nat_lt m n || (m == n && is_lower ms ns)

-- the order of the catalogue: by number of units, and then by type numbers from the front
abbrev pub comes_before : List ℕ → List ℕ → Bool
comes_before ms ns = nat_lt (length ms) (length ns) || (length ms == length ns && is_lower ms ns)

-- a list with each type number below n at its rear, in turn
abbrev pub with_each : ℕ → List ℕ → List (List ℕ)
with_each zero front = []
with_each (suc n) front = with_each n front ++ (front ++ n ∷ []) ∷ []

-- all lists of so many type numbers below n
abbrev pub lists_of : ℕ → ℕ → List (List ℕ)
lists_of n zero = [] ∷ []
lists_of n (suc units) = flat_map (with_each n) (lists_of n units)

-- all lists of 1 to so many type numbers below n
abbrev pub lists_up_to : ℕ → ℕ → List (List ℕ)
lists_up_to n zero = []
lists_up_to n (suc units) = lists_up_to n units ++ lists_of n (suc units)

-- the compositions that fit in so many metres
unfoldable pub catalogue_of : List UnitType → ℕ → List (List ℕ)
catalogue_of types longest = filter (fits_in types longest) (lists_up_to (length types) MAX_COMPOSITION_UNITS)

-- compositions that fit in so many metres, each once, in the order of the catalogue
pub record FitInOrder (types : List UnitType) (longest : ℕ) (compositions : List (List ℕ)) : Type 0 where
  pub fit : All (λ ms. IsTrue (fits_in types longest ms)) compositions
  pub in_order : AllPairs (λ ms ns. IsTrue (comes_before ms ns)) compositions

-- these and no others fit in so many metres
pub record IsCatalogue (types : List UnitType) (longest : ℕ) (catalogue : List (List ℕ)) : Type 0 where
  pub listed : FitInOrder types longest catalogue
  pub complete : (ms : List ℕ) → IsTrue (fits_in types longest ms) → Contains catalogue ms
