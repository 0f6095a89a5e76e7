-- Entries that are named: the number of a name is the place of the first entry that has it.
use Rattle.std.specs.Prelude.{ℕ, ◌≡◌, ◌≢◌, List, map, Bool, Option, Some, None, Result, Ok, Err, position, slice_get}
use Rattle.std.specs.List.{AllPairs, list_any}
use Rattle.std.specs.Str.{bytes_eq}
use Rattle.day_tables.specs.declared.building.refusal.InstanceRefusal.{InstanceRefusal}

-- whether one of the entries has the name
abbrev pub has_name : {X : Type 0} → (X → List ℕ) → List X → List ℕ → Bool
has_name name_of entries name = list_any (λ entry. bytes_eq (name_of entry) name) entries

-- the number of the first entry with the name
abbrev pub find_name : {X : Type 0} → (X → List ℕ) → List X → List ℕ → Option ℕ
find_name name_of entries name = position (λ entry. bytes_eq (name_of entry) name) entries

-- a number that was found, or the refusal
abbrev pub found_or : Option ℕ → InstanceRefusal → Result ℕ InstanceRefusal
found_or (Some n) refusal = Ok n
found_or None refusal = Err refusal

-- the entry of the number has the name
abbrev pub IsNumberOf : {X : Type 0} → (X → List ℕ) → List X → List ℕ → ℕ → Type 0
IsNumberOf name_of entries name n = slice_get (map name_of entries) n ≡ Some name

-- no two entries have one name
abbrev pub AreNamedApart : {X : Type 0} → (X → List ℕ) → List X → Type 0
AreNamedApart name_of entries = AllPairs (λ a b. name_of a ≢ name_of b) entries
