-- Where picks that follow are broken, and why the region of such picks alone has no solution.
use Rattle.std.specs.Prelude.{ℕ, ◌≡◌, ◌+◌, ◌<◌, ◌≤◌, ◌⊎◌, List, [], ◌∷◌, length, Some, None, ℤ, pos}
use Rattle.timetable.specs.Accepted.{IsSoundDay}
use Rattle.timetable.specs.declared.day.indices.Place.{Place}
use Rattle.timetable.specs.Day.{Day}
use Rattle.timetable.specs.Indices.{IsIndexOf, lambdas_of, mus_of}
use Rattle.timetable.specs.Picks.{IsSolution, picked}
use Rattle.inventory.specs.declared.faults.StockFault.{StockFault}
use Rattle.inventory.specs.StockFaults.{IsFirstFault}
use Rattle.branch_tree.specs.Bounds.{IsEmpty}
use Rattle.branch_tree.specs.Claims.{IsRay}
use Rattle.branch_tree.specs.Meanings.{Meanings}
use Rattle.branch_tree.specs.Regions.{alone}
use Rattle.price_bound.specs.declared.changes.Change.{Change}
use Rattle.price_bound.specs.ChangedDays.{changed_day, changed_meanings}
use Rattle.price_bound.specs.DayMeanings.{meanings_of}
use Rattle.price_bound.specs.FollowingPicks.{Follow}
use Rattle.price_bound.specs.Parts.{IsFirstMissed, NoneMissed}
use Rattle.price_bound.specs.BrokenPlaces.{fault_sign, place_of_fault}
use Rattle.price_bound.specs.Slacks.{broken_at}

-- ---- where picks are broken

-- picks are broken at a place, with a sign
pub record AreBrokenAt (day : Day) (picks : List ℕ) (place : Place) (sign : ℤ) : Type 0 where
  pub index_of : IsIndexOf day place (broken_at day picks).index
  pub sign_is : (broken_at day picks).value ≡ sign

-- Of picks that follow, no second trip misses its part, or there is a first hand-over whose second trip does.
abbrev pub PartsAreMissedOrNot : Type 0
PartsAreMissedOrNot = (day : Day) (picks : List ℕ) → IsSoundDay day → Follow day picks →
    NoneMissed day picks ⊎ ((place : Place) × IsFirstMissed day picks place)

-- They are broken at the first one and its part.
abbrev pub BrokenAtFirstMissed : Type 0
BrokenAtFirstMissed = (day : Day) (picks : List ℕ) (place : Place) → IsSoundDay day → Follow day picks →
    IsFirstMissed day picks place → AreBrokenAt day picks place (pos 1)

-- Where no second trip misses its part, they are broken at the first fault of the yards.
abbrev pub BrokenAtFirstFault : Type 0
BrokenAtFirstFault = (day : Day) (picks : List ℕ) (fault : StockFault) → IsSoundDay day → Follow day picks →
    NoneMissed day picks → IsFirstFault day (picked day picks) (Some fault) →
    AreBrokenAt day picks (place_of_fault fault) (fault_sign day fault)

-- Where the yards have no fault either, they are a solution.
abbrev pub SolvedWithoutFault : Type 0
SolvedWithoutFault = (day : Day) (picks : List ℕ) → IsSoundDay day → Follow day picks → NoneMissed day picks →
    IsFirstFault day (picked day picks) None → IsSolution day picks

-- ---- the region of picks alone

-- the first index of hand-overs: those of the yards are below it
abbrev pub handovers_begin : Day → ℕ
handovers_begin day = length (lambdas_of day) + length (mus_of day)

-- Why the region of picks alone has no solution in a relaxation of the day, with changes or without: where they are
-- broken at a hand-over, nothing is near the region; where they are broken at a yard, the one multiplier that is named,
-- with its sign, is a ray there.
pub record AreClosedAlone (day : Day) (problem : Meanings) (picks : List ℕ) : Type 0 where
  pub at_handover : handovers_begin day ≤ (broken_at day picks).index → IsEmpty problem (alone picks)
  pub at_yard : (broken_at day picks).index < handovers_begin day →
      IsRay problem (alone picks) (broken_at day picks ∷ [])

-- So it is of all picks that follow and are no solution.
abbrev pub BrokenPicksAreClosed : Type 0
BrokenPicksAreClosed = (day : Day) (picks : List ℕ) → IsSoundDay day →
    Follow day picks → (IsSolution day picks → ⊥) → AreClosedAlone day (meanings_of day) picks

-- So it is under any changes.
abbrev pub ChangedBrokenPicksAreClosed : Type 0
ChangedBrokenPicksAreClosed = (day : Day) (changes : List Change) (picks : List ℕ) → IsSoundDay day →
    Follow day picks → (IsSolution day picks → ⊥) →
    AreClosedAlone day (changed_meanings (changed_day day changes)) picks
