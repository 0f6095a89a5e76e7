-- A day and a later one, which has some of its trips: those that are planned again from a minute on, and all that leave
-- before it. Of a trip it is asked when and where it runs, and of nothing else that it is the same: not of its name,
-- its length and its demand, nor of platforms, types and weights.
use Rattle.std.specs.Prelude.{ℕ, ◌≡◌, ◌<◌, List, length, map, IsTrue, false, Some, slice_get}
use Rattle.rules.specs.declared.records.Link.{Link}
use Rattle.timetable.specs.Accepted.{IsTimetable, IsDay, AreLinks}
use Rattle.timetable.specs.Day.{Day, leaves, arrives, from_of, to_of, type_of, types_of, home_of, unit_count, ready_at}
use Rattle.timetable.specs.DerivedDays.{link_with, old_number, without_trips}
use Rattle.timetable.specs.Links.{list_of, departing_in}
use Rattle.timetable.specs.Lists.{has, below}
use Rattle.timetable.specs.Running.{Runs}
use Rattle.inventory.specs.NamedBefore.{IsNamedBefore, IsFrozen}

-- ---- the two days

-- the later day has the same units
pub record HasSameUnits (day later : Day) : Type 0 where
  pub count : unit_count later ≡ unit_count day
  pub unit_type : (u : ℕ) → type_of later u ≡ type_of day u
  pub home : (u : ℕ) → home_of later u ≡ home_of day u

-- each of its trips runs as a trip of the day does: it leaves and arrives when and where that one does, and its units
-- are ready when they are there; and they are in the same order. Nothing is asked of kilometres, demands, names or
-- types.
pub record HasTripsOf (day later : Day) (old : ℕ → ℕ) : Type 0 where
  pub known : (t : ℕ) → t < length later.trips → old t < length day.trips
  pub rise : (s t : ℕ) → s < t → t < length later.trips → old s < old t
  pub leaving : (t : ℕ) → t < length later.trips → leaves later t ≡ leaves day (old t)
  pub arriving : (t : ℕ) → t < length later.trips → arrives later t ≡ arrives day (old t)
  pub origin : (t : ℕ) → t < length later.trips → from_of later t ≡ from_of day (old t)
  pub goal : (t : ℕ) → t < length later.trips → to_of later t ≡ to_of day (old t)
  pub ready : (t : ℕ) → t < length later.trips → ready_at later t ≡ ready_at day (old t)

-- it has each trip that leaves before the minute, and each link by which one does
pub record HasPastOf (day later : Day) (old : ℕ → ℕ) (minute : ℕ) : Type 0 where
  pub trips : (t : ℕ) → t < length day.trips → leaves day t < minute → (s : ℕ) × (s < length later.trips) × (old s ≡ t)
  pub links : (l b : ℕ) (link : Link) → slice_get day.links l ≡ Some link → IsTrue (has b (departing_in link.kind))
      → leaves day b < minute
      → (k : ℕ) × (same : Link) × (slice_get later.links k ≡ Some same) × (link_with old same ≡ link)

-- It is a later day, whose trips had these numbers.
pub record IsLaterDay (day later : Day) (old : ℕ → ℕ) (minute : ℕ) : Type 0 where
  pub units : HasSameUnits day later
  pub trips : HasTripsOf day later old
  -- each of its links is a link of the day
  pub links : (k : ℕ) (link : Link) → slice_get later.links k ≡ Some link
      → (l : ℕ) × (slice_get day.links l ≡ Some (link_with old link))
  pub past : HasPastOf day later old minute

-- ---- the law

-- a plan of the day, as a plan of the later day
abbrev pub plan_for : Day → (ℕ → ℕ) → List (List ℕ) → List (List ℕ)
plan_for later old plan = map (λ t. list_of plan (old t)) (below (length later.trips))

-- the types are those of the plan on each trip of the later day that is frozen
abbrev pub AgreeOnFrozen : Day → Day → (ℕ → ℕ) → ℕ → List (List ℕ) → List (List ℕ) → Type 0
AgreeOnFrozen day later old minute plan types = (t : ℕ) → t < length later.trips → IsFrozen later minute t
    → list_of types t ≡ types_of day (list_of plan (old t))

-- Of a plan that runs in the day, the trips that leave before the minute are named as it is asked of them in the later
-- day, with all types that are the plan's on each frozen trip.
abbrev pub PlansNameTheirPastLater : Type 0
PlansNameTheirPastLater = (day later : Day) (old : ℕ → ℕ) (minute : ℕ) (plan types : List (List ℕ))
    → IsDay later → AreLinks day → AreLinks later → IsLaterDay day later old minute
    → AgreeOnFrozen day later old minute plan types → Runs day plan
    → IsNamedBefore later types minute (plan_for later old plan)

-- ---- the day without some trips

-- No trip that is gone leaves before the minute, nor by a link by which another leaves before it.
pub record IsPastSpared (day : Day) (gone : List ℕ) (minute : ℕ) : Type 0 where
  pub trips : (t : ℕ) → t < length day.trips → leaves day t < minute → has t gone ≡ false
  pub beside : (l b c : ℕ) (link : Link) → slice_get day.links l ≡ Some link → IsTrue (has b (departing_in link.kind))
      → IsTrue (has c (departing_in link.kind)) → leaves day b < minute → has c gone ≡ false

-- then the day without them is a later day
abbrev pub DaysWithoutAreLater : Type 0
DaysWithoutAreLater = (day : Day) (gone : List ℕ) (minute : ℕ) → IsTimetable day → AreLinks day
    → IsPastSpared day gone minute → IsLaterDay day (without_trips gone day) (old_number day gone) minute
