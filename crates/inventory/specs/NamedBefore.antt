-- What is asked of the trips that are named already, where the others are to be named from a minute on.
use Rattle.std.specs.Prelude.{ℕ, ◌≡◌, ◌<◌, ◌≤◌, ◌⊎◌, List, IsTrue, filter, length, nat_lt}
use Rattle.timetable.specs.Day.{Day, leaves, arrives, from_of, to_of, home_of, types_of, unit_count, ready_at}
use Rattle.timetable.specs.Duties.{duty}
use Rattle.timetable.specs.Links.{list_of, trips_into}
use Rattle.timetable.specs.Lists.{has, IsDistinct}
use Rattle.timetable.specs.Running.{AreUnits, BeginsAt, EachFollows}
use Rattle.inventory.specs.Places.{going_on, given_places, kept_places, taken_places, coming}

-- a list of units of the day without repeats that has these types
pub record IsListOf (day : Day) (types units : List ℕ) : Type 0 where
  pub distinct : IsDistinct units
  pub known : AreUnits day units
  pub types_are : types_of day units ≡ types

-- the unit goes through the yard from trip a to trip b, given and taken places being read off the types
pub record GoesByPlaces (day : Day) (types plan : List (List ℕ)) (u a b : ℕ) : Type 0 where
  pub given : IsTrue (has u (given_places day types a (list_of plan a)))
  pub taken : IsTrue (has u (taken_places day types b (list_of plan b)))
  pub station : to_of day a ≡ from_of day b
  pub ready : ready_at day a ≤ leaves day b

-- the unit may go on from trip a to trip b: at a place that stays in the train, or through the yard
abbrev pub MayFollowByPlaces : Day → List (List ℕ) → List (List ℕ) → ℕ → ℕ → ℕ → Type 0
MayFollowByPlaces day types plan u a b =
    IsTrue (has u (going_on day types a b (list_of plan a))) ⊎ GoesByPlaces day types plan u a b

-- the trips of a unit's duty that leave before a minute
abbrev pub duty_before : Day → List (List ℕ) → ℕ → ℕ → List ℕ
duty_before day plan minute u = filter (λ t. nat_lt (leaves day t) minute) (duty day plan u)

-- a trip is frozen at a minute: it leaves before it, or a link leads to it from a trip that arrives before it
abbrev pub IsFrozen : Day → ℕ → ℕ → Type 0
IsFrozen day minute t =
    (leaves day t < minute) ⊎ ((a : ℕ) × IsTrue (has a (trips_into day t)) × (arrives day a < minute))

-- The trips that leave before the minute are named with these types, as the rules of links and duties ask it of them.
pub record IsNamedBefore (day : Day) (types : List (List ℕ)) (minute : ℕ) (plan : List (List ℕ)) : Type 0 where
  -- each has units of the day, none twice, with its types
  pub lists : (t : ℕ) → t < length day.trips → leaves day t < minute → IsListOf day (list_of types t) (list_of plan t)
  -- what its kept places hold came with the trains that lead into it
  pub links : (t : ℕ) → t < length day.trips → leaves day t < minute
      → kept_places day types t (list_of plan t) ≡ coming day types (list_of plan) t
  -- each unit begins the day at home
  pub homes : (u : ℕ) → u < unit_count day → BeginsAt day (home_of day u) (duty_before day plan minute u)
  -- each unit can go from one of these trips to the next
  pub follows : (u : ℕ) → u < unit_count day
      → EachFollows (MayFollowByPlaces day types plan u) (duty_before day plan minute u)
