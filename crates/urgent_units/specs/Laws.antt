-- What is so of legs, moments, held units and cuts.
use Rattle.std.specs.Prelude.{ℕ, ◌≡◌, ◌≤◌, ◌↔◌, List, Bool, Some, IsTrue}
use Rattle.std.specs.List.{AllPairs}
use Rattle.timetable.specs.Accepted.{IsDay, AreLinks, DoMeet}
use Rattle.timetable.specs.Day.{Day}
use Rattle.timetable.specs.Running.{Runs}
use Rattle.urgent_units.specs.declared.legs.UnitLegs.{UnitLegs}
use Rattle.urgent_units.specs.declared.refusal.WishRefusal.{WishRefusal}
use Rattle.urgent_units.specs.declared.refusal.WishRefusal.TheVariants.{NoMemory}
use Rattle.urgent_units.specs.declared.wish.Wish.{Wish}
use Rattle.urgent_units.specs.Cuts.{value_of}
use Rattle.urgent_units.specs.Held.{IsHeld, is_held}
use Rattle.urgent_units.specs.Legs.{TypeLegs, legs_of, all_legs}
use Rattle.urgent_units.specs.Moments.{AreEventMinutes, minutes_at}
use Rattle.urgent_units.specs.Namings.{IsNaming, brought}
use Rattle.urgent_units.specs.Runs.{AreLongestRuns, runs_of}
use Rattle.urgent_units.specs.Wishes.{IsWish, IsWishOf, IsWishRefusal}

-- a table says one wish, and then is refused for nothing but want of memory
pub record IsDecided (day : Day) (bytes : List ℕ) : Type 0 where
  pub one : (wish other : Wish) → IsWishOf day bytes wish → IsWishOf day bytes other → wish ≡ other
  pub refused : (wish : Wish) (refusal : WishRefusal) → IsWishOf day bytes wish → IsWishRefusal day bytes refusal
      → refusal ≡ NoMemory

abbrev pub TablesAreDecided : Type 0
TablesAreDecided = (day : Day) (bytes : List ℕ) → IsDecided day bytes

-- lists of trips are the longest runs of trips exactly where this holds of them
abbrev pub RunsAreLongest : Type 0
RunsAreLongest = (goes : ℕ → ℕ → Bool) (trips : List ℕ) (runs : List (List ℕ))
    → (runs ≡ runs_of goes trips) ↔ AreLongestRuns goes trips runs

-- minutes are those of a station's moments exactly where they are the minutes at which something happens there
abbrev pub MomentsAreEvents : Type 0
MomentsAreEvents = (legs : TypeLegs) (s : ℕ) (minutes : List ℕ)
    → (minutes ≡ minutes_at legs s) ↔ AreEventMinutes (all_legs legs) s minutes

-- a unit whose legs are in the order in which they leave is held exactly where it is in the yard and ready
abbrev pub HeldUnitsAreReady : Type 0
HeldUnitsAreReady = (unit : UnitLegs) (s over : ℕ) → AllPairs (λ one other. one.departs ≤ other.departs) unit.legs
    → IsTrue (is_held unit s over) ↔ IsHeld unit s over

-- no naming brings more urgent units to the depot than any yard cut is worth
abbrev pub CutsBoundNamings : Type 0
CutsBoundNamings = (day : Day) (plan other : List (List ℕ)) (wish : Wish) (cut : List (List Bool)) (value : ℕ)
    → IsDay day → AreLinks day → DoMeet day → IsWish day wish
    → Runs day plan → IsNaming day plan other
    → value_of day (legs_of day plan wish.unit_type) wish cut ≡ Some value
    → brought day wish other ≤ value
