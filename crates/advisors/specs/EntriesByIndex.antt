-- The entries of a list on one side of an index.
use Rattle.std.specs.Prelude.{ℕ, List, filter, nat_lt, nat_le}
use Rattle.branch_tree.specs.declared.multipliers.Entry.{Entry}

-- those of lower indices
abbrev pub below : ℕ → List Entry → List Entry
below index entries = filter (λ entry. nat_lt entry.index index) entries

-- those of this index and of higher ones
abbrev pub from_on : ℕ → List Entry → List Entry
from_on index entries = filter (λ entry. nat_le index entry.index) entries
