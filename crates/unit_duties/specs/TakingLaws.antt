-- Which trip of a named plan takes first, and for which place. Trips take units from the yards in the order in which
-- they leave, so of those that leave at one minute the one with the smaller number takes first. A trip fills its places
-- from front to rear.
use Rattle.std.specs.Prelude.{ℕ, ◌≡◌, ◌<◌, List, length, take, reverse, filter, Option, Some, slice_get}
use Rattle.timetable.specs.Accepted.{IsDay, AreLinks}
use Rattle.timetable.specs.Day.{Day, leaves, from_of, unit_count}
use Rattle.timetable.specs.Duties.{is_before, in_order}
use Rattle.timetable.specs.Links.{list_of, itself, taken_with}
use Rattle.timetable.specs.Lists.{below}
use Rattle.inventory.specs.NamedUnits.{InYard, standing, named_plan}
use Rattle.inventory.specs.NamingLaws.{IsAvailable, IsNextUnit}
use Rattle.inventory.specs.Places.{coming, put_together}
use Rattle.unit_duties.specs.Broken.{EachHolds}

-- the trips that leave before trip t, or at the same minute with a smaller number; the one that leaves last first
abbrev pub trips_before : Day → ℕ → List ℕ
trips_before day t = reverse (in_order day (filter (λ b. is_before day b t) (below (length day.trips))))

-- where a unit stands when trip t takes its units: once these trips have run, and no others
abbrev pub stands_for : Day → List (List ℕ) → List (List ℕ) → ℕ → ℕ → Option InYard
stands_for day types plan t = standing day types (list_of plan) (trips_before day t)

-- A trip takes these units from the yard, front to rear.
pub record TakesInTurn (day : Day) (types plan : List (List ℕ)) (t : ℕ) (us : List ℕ) : Type 0 where
  -- its other units came with its trains
  pub its_list : list_of plan t ≡ put_together day t (coming day types (list_of plan) t) us
  -- there is one for each type of unit that it takes
  pub each_place : length us ≡ length (taken_with itself day types t)
  -- where a unit of the type is left that was not taken for a place before this one, the unit is the one of these that
  -- was ready earliest, and of those the one with the smallest number
  pub in_turn : (k m u v : ℕ) → slice_get (taken_with itself day types t) k ≡ Some m → slice_get us k ≡ Some u
      → v < unit_count day
      → IsAvailable day (stands_for day types plan t) (from_of day t) (leaves day t) (take k us) m v
      → IsNextUnit day (stands_for day types plan t) (from_of day t) (leaves day t) (take k us) m u

-- So does each trip of a plan that is named by the rule, where the rule of each link holds of the types. Where a link
-- is broken, nothing is said: it leaves open which units a train keeps, and so which are taken.
abbrev pub TripsTakeInTurn : Type 0
TripsTakeInTurn = (day : Day) (types : List (List ℕ)) (t : ℕ) → IsDay day → AreLinks day → EachHolds day types
    → t < length day.trips → (us : List ℕ) × TakesInTurn day types (named_plan day types) t us
