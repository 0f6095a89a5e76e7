-- Links of a number of trips, and a flag for each trip that tells whether they name it on a side.
use Rattle.std.specs.Prelude.{ℕ, ◌<◌, ◌≡◌, List, [], ◌∷◌, length, Bool, true, slice_set, slice_index_or}
use Rattle.std.specs.List.{list_any}
use Rattle.rules.specs.declared.records.Link.{Link}
use Rattle.rules.specs.declared.records.LinkKind.{LinkKind}
use Rattle.day_tables.specs.Lists.{has}

-- links, and how many trips there are
pub record LinksOfTrips : Type 0 where
  pub links : List Link
  pub trips : ℕ

-- the flags after those of some trips are put up
abbrev pub marked : List ℕ → List Bool → List Bool
marked [] flags = flags
marked (t ∷ ts) flags = marked ts (slice_set flags t true)

-- a flag for each trip: whether a link names it on the side
pub record IsFlagged (side : LinkKind → List ℕ) (links : List Link) (flags : List Bool) : Type 0 where
  pub up : (t : ℕ) (d : Bool) → t < length flags
      → slice_index_or flags t d ≡ list_any (λ link. has t (side link.kind)) links
