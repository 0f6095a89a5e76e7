-- The slacks of picks that are entered so far: those of the indices below a number, each that is not 0.
use Rattle.std.specs.Prelude.{ℕ, ◌≡◌, ◌+◌, ◌*◌, ◌^◌, ◌<◌, List, length, ℤ}
use Rattle.rail_base.specs.declared.limits.TheConstants.{MAX_SLACKS}
use Rattle.timetable.specs.Accepted.{IsSoundDay}
use Rattle.timetable.specs.declared.day.indices.Place.TheVariants.{Mu, Sigma}
use Rattle.timetable.specs.Compositions.{compositions_of}
use Rattle.timetable.specs.Day.{Day}
use Rattle.timetable.specs.Handovers.{handovers_of}
use Rattle.timetable.specs.Indices.{lambdas_at, lambdas_of, mus_of, places_of}
use Rattle.timetable.specs.Lists.{joined, listed}
use Rattle.timetable.specs.Picks.{picked}
use Rattle.inventory.specs.Loaded.{Loaded}
use Rattle.transitions.specs.declared.edge.Edge.{Edge}
use Rattle.transitions.specs.Edges.{AreGraphs}
use Rattle.branch_tree.specs.declared.multipliers.Entry.{Entry}
use Rattle.branch_tree.specs.Entries.{entry_of}
use Rattle.price_bound.specs.FollowingPicks.{Follow}
use Rattle.price_bound.specs.Slacks.{slack_of}

-- the entries of numbers that are not 0, of those below an index
unfoldable pub entries_below : (ℕ → ℤ) → ℕ → List Entry
entries_below value n = joined (λ index. entry_of index (value index)) n

-- the slacks of picks that are not 0, of the indices below one
abbrev pub entered : Day → List ℕ → ℕ → List Entry
entered day picks n = entries_below (slack_of day picks) n

-- ---- the first index

-- of a station; of a station and a type
abbrev pub station_index : Day → ℕ → ℕ
station_index day s = length (joined (λ s. joined (lambdas_at day s) (length day.types)) s)

abbrev pub yard_index : Day → ℕ → ℕ → ℕ
yard_index day s m = station_index day s + length (joined (lambdas_at day s) m)

-- of the end of a station
abbrev pub end_index : Day → ℕ → ℕ
end_index day s = length (lambdas_of day) + length (joined (λ s. listed (λ m. Mu s m) (length day.types)) s)

-- of a hand-over
abbrev pub handover_index : Day → ℕ → ℕ
handover_index day h = length (lambdas_of day) +
    (length (mus_of day) + length (joined (λ h. listed (λ c. Sigma h c) (length (compositions_of day))) h))

-- ---- what is looked at

-- a day and picks
pub record Counted : Type 0 where
  pub day : Day
  pub picks : List ℕ

-- the picks follow, the ledger has loaded them, and there is room for their slacks
pub record IsCounted (day : Day) (graphs : List (List Edge)) (ledger : Loaded) (picks : List ℕ) : Type 0 where
  pub accepted : IsSoundDay day
  pub edges : AreGraphs day graphs
  pub follow : Follow day picks
  pub counted : ledger ≡ record { day = day; lists = picked day picks }
  pub few : length (places_of day) < 2 ^ 32
  pub room : length (lambdas_of day) + length (mus_of day) + 2 * length (handovers_of day) < MAX_SLACKS
