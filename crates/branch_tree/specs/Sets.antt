-- A set of compositions: for each number of a composition whether it is a member.
use Rattle.std.specs.Prelude.{ℕ, suc, List, [], ◌∷◌, map, get_or, Bool, false, ◌&&◌, IsTrue, if◌then◌else◌, ◌+◌}
use Rattle.std.specs.List.{range_with_len}
use Rattle.rail_base.specs.declared.limits.TheConstants.{MAX_COMPOSITIONS}

-- whether the composition of a number is in a set, which no number past its end is
abbrev pub is_member : List Bool → ℕ → Bool
is_member set comp = get_or set comp false

-- some composition is in the set
abbrev pub HasMember : List Bool → Type 0
HasMember set = (comp : ℕ) × IsTrue (is_member set comp)

-- how many compositions are in a set
abbrev pub size_of : List Bool → ℕ
size_of [] = 0
size_of (member ∷ members) = (if member then 1 else 0) + size_of members

-- the numbers below a bound, each with whether it passes a test
unfoldable pub tested : (ℕ → Bool) → ℕ → List Bool
tested test bound = map test (range_with_len 0 bound)

-- the set of the compositions that pass a test
abbrev pub set_of : (ℕ → Bool) → List Bool
set_of test = tested test MAX_COMPOSITIONS

-- the members that pass a test, where the list begins with the composition of a number
abbrev pub restricted_from : ℕ → (ℕ → Bool) → List Bool → List Bool
restricted_from comp test [] = []
restricted_from comp test (member ∷ members) = (member && test comp) ∷ restricted_from (suc comp) test members

-- the members of a set that pass a test
abbrev pub restricted : (ℕ → Bool) → List Bool → List Bool
restricted test set = restricted_from 0 test set
