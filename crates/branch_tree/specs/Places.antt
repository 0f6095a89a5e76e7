-- The inside of a multiplier list: places of entries.
use Rattle.std.specs.Prelude.{ℕ, zero, suc, ◌<◌, ◌≤◌, ◌≡◌, List, [], ◌∷◌, length, ℤ, unsigned_abs, ◌==◌}
use Rattle.std.specs.Prelude.{slice_index_or, if◌then◌else◌}
use Rattle.branch_tree.specs.declared.multipliers.Entry.{Entry}

-- the place of an index: the entries before it have lower indices, and those from it on have not
pub record IsPlaceOf (entries : List Entry) (index : ℕ) (place : ℕ) : Type 0 where
  pub within : place ≤ length entries
  pub before : (k : ℕ) (d : Entry) → k < place → (slice_index_or entries k d).index < index
  pub after : (k : ℕ) (d : Entry) → place ≤ k → k < length entries → index ≤ (slice_index_or entries k d).index

-- the entry at a place is there and has this index
pub record IsAt (entries : List Entry) (place : ℕ) (index : ℕ) : Type 0 where
  pub within : place < length entries
  pub here : (d : Entry) → (slice_index_or entries place d).index ≡ index

-- a value changed at a place, where 0 takes its entry out
abbrev pub changed : List Entry → ℕ → ℤ → List Entry
changed [] place value = []
changed (entry ∷ entries) zero value =
    if unsigned_abs value == 0 then entries else record entry { value = value } ∷ entries
changed (entry ∷ entries) (suc place) value = entry ∷ changed entries place value
