-- What a composition is: the types of a train's units, front to rear, each a number into the list of unit types.
use Rattle.std.specs.Prelude.{ℕ, ◌+◌, List, [], ◌∷◌, Bool, true, ◌&&◌, option_map, unwrap_or, slice_get, length, nat_lt}
use Rattle.std.specs.Prelude.{nat_le}
use Rattle.std.specs.List.{list_all}
use Rattle.std.specs.Str.{bytes_eq}
use Rattle.rail_base.specs.declared.limits.TheConstants.{MAX_COMPOSITION_UNITS}
use Rattle.rules.specs.declared.records.UnitType.{UnitType}

-- a number of the unit type m, and 0 where there is no such type
abbrev pub of_type : (UnitType → ℕ) → List UnitType → ℕ → ℕ
of_type measure types m = unwrap_or (option_map measure (slice_get types m)) 0

-- the sum of a number over the units
abbrev pub sum_over : (UnitType → ℕ) → List UnitType → List ℕ → ℕ
sum_over measure types [] = 0
sum_over measure types (m ∷ ms) = of_type measure types m + sum_over measure types ms

abbrev pub metres_of : List UnitType → List ℕ → ℕ
metres_of = sum_over (λ t. t.metres)

abbrev pub seats_of : List UnitType → List ℕ → ℕ
seats_of = sum_over (λ t. t.seats)

abbrev pub first_seats_of : List UnitType → List ℕ → ℕ
first_seats_of = sum_over (λ t. t.first)

abbrev pub carriages_of : List UnitType → List ℕ → ℕ
carriages_of = sum_over (λ t. t.carriages)

-- the name of a type's family, and none where there is no such type
abbrev pub family_of : List UnitType → ℕ → List ℕ
family_of types m = unwrap_or (option_map (λ t. t.family) (slice_get types m)) []

-- all units are of the first one's family
abbrev pub is_one_family : List UnitType → List ℕ → Bool
is_one_family types [] = true
is_one_family types (m ∷ ms) = list_all (λ n. bytes_eq (family_of types n) (family_of types m)) ms

-- each unit's type is in the list of types
abbrev pub are_types : List UnitType → List ℕ → Bool
are_types types ms = list_all (λ m. nat_lt m (length types)) ms

-- a composition that may run where so many metres fit: 1 to MAX_COMPOSITION_UNITS units, all of one family
abbrev pub fits_in : List UnitType → ℕ → List ℕ → Bool
fits_in types longest ms =
    nat_le 1 (length ms) && nat_le (length ms) MAX_COMPOSITION_UNITS && are_types types ms && is_one_family types ms
    && nat_le (metres_of types ms) longest
