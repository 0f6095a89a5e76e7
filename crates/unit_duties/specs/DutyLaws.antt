-- What the duty of a unit is: the trips that the unit is on, in the order in which they leave.
use Rattle.std.specs.Prelude.{ℕ, ◌≡◌, ◌<◌, ◌⊎◌, ◌↔◌, List, length, IsTrue, AllPairs}
use Rattle.timetable.specs.Day.{Day, leaves}
use Rattle.timetable.specs.Duties.{duty}
use Rattle.timetable.specs.Links.{list_of}
use Rattle.timetable.specs.Lists.{has, IsDistinct}

-- the unit is on a trip: it is a trip of the day, and its list has the unit
pub record IsOnTrip (day : Day) (plan : List (List ℕ)) (u t : ℕ) : Type 0 where
  pub known : t < length day.trips
  pub listed : IsTrue (has u (list_of plan t))

-- trip a leaves before trip b, or at the same minute, and then it has the smaller number
abbrev pub LeavesFirst : Day → ℕ → ℕ → Type 0
LeavesFirst day a b = (leaves day a < leaves day b) ⊎ ((leaves day a ≡ leaves day b) × (a < b))

-- these are the trips that the unit is on, each once, and of any two of them the first one leaves first
pub record IsDutyOf (day : Day) (plan : List (List ℕ)) (u : ℕ) (trips : List ℕ) : Type 0 where
  pub its_trips : (t : ℕ) → IsTrue (has t trips) ↔ IsOnTrip day plan u t
  pub once : IsDistinct trips
  pub in_order : AllPairs (LeavesFirst day) trips

-- in each plan, whether or not it runs, a list of trips is the duty of a unit exactly where this holds of it
abbrev pub DutiesAreInOrder : Type 0
DutiesAreInOrder = (day : Day) (plan : List (List ℕ)) (u : ℕ) (trips : List ℕ)
    → (trips ≡ duty day plan u) ↔ IsDutyOf day plan u trips
