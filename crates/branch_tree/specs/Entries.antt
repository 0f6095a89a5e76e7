-- Lists of numbers by index: multipliers, and the slacks of picks.
use Rattle.std.specs.Prelude.{ℕ, ◌<◌, ◌≤◌, ◌≡◌, ◌≢◌, List, [], ◌∷◌, ◌++◌, length, filter, ℤ, pos, ◌≤ℤ◌, unsigned_abs}
use Rattle.std.specs.Prelude.{Bool, false, ◌==◌, ◌||◌, nat_lt, if◌then◌else◌, All, AllPairs, Option, Some, None}
use Rattle.std.specs.Prelude.{MatchOption}
use Rattle.rail_base.specs.declared.limits.TheConstants.{MAX_ENTRIES, MAX_MULTIPLIER, MAX_SLACKS}
use Rattle.branch_tree.specs.declared.multipliers.Entry.{Entry}
use Rattle.branch_tree.specs.declared.multipliers.PutRefusal.{PutRefusal}
use Rattle.branch_tree.specs.declared.multipliers.PutRefusal.TheVariants.{TooLarge, Full}

-- the value at an index, and 0 where it has no entry
abbrev pub value_at : List Entry → ℕ → ℤ
value_at [] index = pos 0
value_at (entry ∷ entries) index = if index == entry.index then entry.value else value_at entries index

-- the indices rise
abbrev pub AreRising : List Entry → Type 0
AreRising entries = AllPairs (λ a b. a.index < b.index) entries

-- no entry has the value 0
abbrev pub AreNotZero : List Entry → Type 0
AreNotZero entries = All (λ entry. entry.value ≢ pos 0) entries

-- a list of multipliers: indices that rise, values that are not 0 and keep within the limit, at most so many entries
pub record AreMultipliers (entries : List Entry) : Type 0 where
  pub rising : AreRising entries
  pub not_zero : AreNotZero entries
  pub within : All (λ entry. unsigned_abs entry.value ≤ MAX_MULTIPLIER) entries
  pub few : length entries ≤ MAX_ENTRIES

-- all entries are of indices below `indices`, and those below `free_from` have no negative value
abbrev pub DoFit : ℕ → ℕ → List Entry → Type 0
DoFit indices free_from entries =
    All (λ entry. (entry.index < indices) × (entry.index < free_from → pos 0 ≤ℤ entry.value)) entries

-- whether an index has an entry
abbrev pub is_entered : List Entry → ℕ → Bool
is_entered [] index = false
is_entered (entry ∷ entries) index = (index == entry.index) || is_entered entries index

-- why a value can't be put at an index: its size is over the limit, or it would be one entry too many
abbrev pub refusal_of : List Entry → ℕ → ℤ → Option PutRefusal
refusal_of entries index value = if nat_lt MAX_MULTIPLIER (unsigned_abs value) then Some TooLarge
    else if (unsigned_abs value == 0) || is_entered entries index || nat_lt (length entries) MAX_ENTRIES then None
    else Some Full

-- the entry of a value at an index, and none where the value is 0
abbrev pub entry_of : ℕ → ℤ → List Entry
entry_of index value = if unsigned_abs value == 0 then [] else record { index = index; value = value } ∷ []

-- the entries after a value is put at an index: those of lower indices, the new one, and those of higher indices
abbrev pub put_in : List Entry → ℕ → ℤ → List Entry
put_in entries index value =
    filter (λ entry. nat_lt entry.index index) entries ++
    (entry_of index value ++ filter (λ entry. nat_lt index entry.index) entries)

-- after a put: the value at the index is the new one, and every other index keeps its value
abbrev pub IsPut : List Entry → ℕ → ℤ → List Entry → Type 0
IsPut old index value new = (i : ℕ) → value_at new i ≡ (if i == index then value else value_at old i)

-- the last entry, where there is one
abbrev pub last_entry_of : List Entry → Option Entry
last_entry_of [] = None
last_entry_of (entry ∷ []) = Some entry
last_entry_of (entry ∷ next ∷ entries) = last_entry_of (next ∷ entries)

-- an index comes after those of all entries, which rise
abbrev pub IsPastLast : List Entry → ℕ → Type 0
IsPastLast entries index = MatchOption (last_entry_of entries) (Unit {0}) (λ last. last.index < index)

-- a list of slacks: indices that rise, and values that are not 0
pub record AreSlackEntries (entries : List Entry) : Type 0 where
  pub rising : AreRising entries
  pub not_zero : AreNotZero entries
  pub few : length entries ≤ MAX_SLACKS
