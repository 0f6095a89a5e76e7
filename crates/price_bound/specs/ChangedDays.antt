-- Days under changes: what changes add to the cost of picks, and what the relaxation of such a day means.
use Rattle.std.specs.Prelude.{ℕ, ◌≡◌, ◌+◌, ◌<◌, ◌≤◌, ◌↔◌, List, [], ◌∷◌, length, Bool, ◌==◌, if◌then◌else◌, pos}
use Rattle.std.specs.List.{All, AllPairs}
use Rattle.rail_base.specs.declared.limits.TheConstants.{MAX_CHANGE}
use Rattle.timetable.specs.Accepted.{IsSoundDay}
use Rattle.timetable.specs.Compositions.{compositions_of}
use Rattle.timetable.specs.Cost.{cost_of}
use Rattle.timetable.specs.Day.{Day}
use Rattle.timetable.specs.Picks.{picked}
use Rattle.branch_tree.specs.Meanings.{IsRelaxation, Meanings}
use Rattle.price_bound.specs.declared.changes.Change.{Change}
use Rattle.price_bound.specs.DayMeanings.{meanings_of}
use Rattle.price_bound.specs.FollowingPicks.{pick_of}

-- a day, and what it costs to give some of its trips other picks than bases
pub record ChangedDay : Type 0 where
  pub day : Day
  pub changes : List Change

-- the trips rise and are the day's, each base is in the catalogue, and each cost is within the limit
pub record AreChanges (day : Day) (changes : List Change) : Type 0 where
  pub rising : AllPairs (λ a b. a.trip < b.trip) changes
  pub trips : All (λ change. change.trip < length day.trips) changes
  pub bases : All (λ change. change.base < length (compositions_of day)) changes
  pub costs : All (λ change. change.cost ≤ MAX_CHANGE) changes

-- the cost of each change whose trip has another pick than its base
abbrev pub own_cost : List ℕ → Change → ℕ
own_cost picks change = if change.base == pick_of picks change.trip then 0 else change.cost

abbrev pub added_cost : List Change → List ℕ → ℕ
added_cost [] picks = 0
added_cost (change ∷ changes) picks = own_cost picks change + added_cost changes picks

-- Picks cost what their compositions cost and what the changes add. All else is as it is on the day.
abbrev pub changed_meanings : ChangedDay → Meanings
changed_meanings changed = record (meanings_of changed.day) {
  cost = λ picks. pos (cost_of changed.day (picked changed.day picks) + added_cost changed.changes picks);
}

-- a day that nothing is changed on
abbrev pub unchanged : Day → ChangedDay
unchanged day = record { day = day; changes = [] }

abbrev pub changed_day : Day → List Change → ChangedDay
changed_day day changes = record { day = day; changes = changes }

-- Every accepted day is, under any changes, a relaxation of its solutions.
abbrev pub ChangedDaysAreRelaxations : Type 0
ChangedDaysAreRelaxations = (day : Day) (changes : List Change) → IsSoundDay day →
    IsRelaxation (changed_meanings (changed_day day changes))

-- two problems mean the same: picks cost the same and have the same slacks, and the same picks follow, are near a
-- region, and are a solution
pub record MeanTheSame (problem other : Meanings) : Type 0 where
  pub trips : problem.trips ≡ other.trips
  pub indices : problem.indices ≡ other.indices
  pub free_from : problem.free_from ≡ other.free_from
  pub catalogue : problem.catalogue ≡ other.catalogue
  pub order : problem.order ≡ other.order
  pub cost : (picks : List ℕ) → problem.cost picks ≡ other.cost picks
  pub slack : (picks : List ℕ) (index : ℕ) → problem.slack picks index ≡ other.slack picks index
  pub follow : (picks : List ℕ) → problem.Follow picks ↔ other.Follow picks
  pub near : (picks : List ℕ) (region : List (List Bool)) → problem.AreNear picks region ↔ other.AreNear picks region
  pub solution : (picks : List ℕ) → problem.IsSolution picks ↔ other.IsSolution picks
  pub broken : (picks : List ℕ) → problem.broken picks ≡ other.broken picks

-- A day that nothing is changed on means what the day does.
abbrev pub UnchangedDaysAreDays : Type 0
UnchangedDaysAreDays = (day : Day) → MeanTheSame (changed_meanings (unchanged day)) (meanings_of day)
