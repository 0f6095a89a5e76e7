-- Changed costs: what a trip costs more with another composition than a base.
use Rattle.std.specs.Prelude.{ℕ, suc, ◌≡◌, ◌+◌, ◌<◌, ◌≤◌, List, [], ◌∷◌, length, take, drop, ◌==◌, if◌then◌else◌}
use Rattle.std.specs.List.{All, AllPairs}
use Rattle.timetable.specs.Compositions.{composition_at}
use Rattle.timetable.specs.Cost.{trip_cost}
use Rattle.timetable.specs.Day.{Day}
use Rattle.price_bound.specs.declared.changes.Change.{Change}

-- what a trip's change costs with a composition: nothing with the base, and nothing where the trip has no change
abbrev pub change_cost : List Change → ℕ → ℕ → ℕ
change_cost [] t comp = 0
change_cost (change ∷ changes) t comp =
    if change.trip == t then (if change.base == comp then 0 else change.cost) else change_cost changes t comp

-- a trip with a composition, under changes
unfoldable pub changed_cost : Day → List Change → ℕ → ℕ → ℕ
changed_cost day changes t comp = trip_cost day t (composition_at day comp) + change_cost changes t comp

-- the trips of changes rise, and are none before a trip
pub record AreFrom (changes : List Change) (trip : ℕ) : Type 0 where
  pub rising : AllPairs (λ a b. a.trip < b.trip) changes
  pub later : All (λ change. trip ≤ change.trip) changes

-- so many of the first of them are the trip's, and the others are of later trips
pub record IsOwnCount (changes : List Change) (trip count : ℕ) : Type 0 where
  pub within : count ≤ length changes
  pub own : (comp : ℕ) → change_cost (take count changes) trip comp ≡ change_cost changes trip comp
  pub left : AreFrom (drop count changes) (suc trip)
  pub others : (t comp : ℕ) → trip < t → change_cost (drop count changes) t comp ≡ change_cost changes t comp
