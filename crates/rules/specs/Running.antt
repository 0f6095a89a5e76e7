-- Which plans run: with units that stand anywhere at the start of the day, and with those of the stock at their homes.
use Rattle.std.specs.Prelude.{ℕ, ◌≡◌, ◌<◌, ◌≤◌, ◌⊎◌, List, [], ◌∷◌, length, map, true, ◌==◌, ◌&&◌, IsTrue, slice_get}
use Rattle.std.specs.Prelude.{Some, ⊤, ◌↔◌}
use Rattle.rules.specs.declared.records.Link.{Link}
use Rattle.rules.specs.Day.{Day, Units, leaves, from_of, to_of, unit_count, stock_units, wanted_of, ready_at}
use Rattle.rules.specs.Admissible.{is_admissible}
use Rattle.rules.specs.Links.{list_of, link_holds, kept_with, given_with, taken_with}
use Rattle.rules.specs.Duties.{duty, last_place_of}
use Rattle.rules.specs.Lists.{has, IsDistinct, count_below}

-- units of the day
abbrev pub AreUnits : Day → List ℕ → Type 0
AreUnits day us = (u : ℕ) → IsTrue (has u us) → u < unit_count day

-- a plan gives each trip a list of these units
pub record IsPlanOfUnits (all : Units) (day : Day) (plan : List (List ℕ)) : Type 0 where
  pub trips : length plan ≡ length day.trips
  pub units : (t u : ℕ) → IsTrue (has u (list_of plan t)) → u < all.count

-- a plan of the day: of the stock's units
abbrev pub IsPlan : Day → List (List ℕ) → Type 0
IsPlan day plan = IsPlanOfUnits (stock_units day) day plan

-- a list of units that may run on a trip: no unit twice, and an admissible composition
pub record MayRunOf (type_of : ℕ → ℕ) (day : Day) (trip : ℕ) (us : List ℕ) : Type 0 where
  pub distinct : IsDistinct us
  pub admissible : is_admissible day trip (map type_of us) ≡ true

-- the unit goes through the yard from trip a to trip b: it is given by the one, taken by the other at the same station,
-- and ready
pub record GoesByYardOf (type_of : ℕ → ℕ) (day : Day) (plan : List (List ℕ)) (u a b : ℕ) : Type 0 where
  pub given : IsTrue (has u (given_with type_of day plan a))
  pub taken : IsTrue (has u (taken_with type_of day plan b))
  pub station : to_of day a ≡ from_of day b
  pub ready : ready_at day a ≤ leaves day b

-- the unit may go on from trip a to trip b: it stays in the train, or it goes through the yard
abbrev pub MayFollowOf : (ℕ → ℕ) → Day → List (List ℕ) → ℕ → ℕ → ℕ → Type 0
MayFollowOf type_of day plan u a b =
    IsTrue (has u (kept_with type_of day plan a b)) ⊎ GoesByYardOf type_of day plan u a b

-- each two trips that follow one another
abbrev pub EachFollows : (ℕ → ℕ → Type 0) → List ℕ → Type 0
EachFollows R [] = ⊤
EachFollows R (a ∷ []) = ⊤
EachFollows R (a ∷ b ∷ ts) = R a b × EachFollows R (b ∷ ts)

-- the first trip, if there is one, leaves from a station
abbrev pub BeginsAt : Day → ℕ → List ℕ → Type 0
BeginsAt day station [] = ⊤
BeginsAt day station (t ∷ ts) = from_of day t ≡ station

-- how many of these units, of a type, end the day at a station
unfoldable pub ending_of : Units → Day → List (List ℕ) → ℕ → ℕ → ℕ
ending_of units day plan s m =
    count_below (λ u. (last_place_of units day plan u == s) && (units.unit_type u == m)) units.count

-- The plan runs, with these units.
pub record RunsOf (units : Units) (day : Day) (plan : List (List ℕ)) : Type 0 where
  -- it is a plan of them
  pub is_plan : IsPlanOfUnits units day plan
  -- each trip has a list that may run on it
  pub lists : (t : ℕ) → t < length day.trips → MayRunOf units.unit_type day t (list_of plan t)
  -- each link's rule holds
  pub links : (l : ℕ) (link : Link) → slice_get day.links l ≡ Some link → link_holds units.unit_type link plan ≡ true
  -- each unit begins the day at home
  pub homes : (u : ℕ) → u < units.count → BeginsAt day (units.home u) (duty day plan u)
  -- each unit can go from one trip of its duty to the next
  pub follows : (u : ℕ) → u < units.count → EachFollows (MayFollowOf units.unit_type day plan u) (duty day plan u)
  -- each station has, of each type, as many units at the end as are wanted
  pub balance : (s m : ℕ) → s < length day.stations → m < length day.types
      → ending_of units day plan s m ≡ wanted_of day s m

-- The plan runs, with the units of the stock.
abbrev pub Runs : Day → List (List ℕ) → Type 0
Runs day plan = RunsOf (stock_units day) day plan

-- ---- in two parts

-- All but the last of these: the plan runs through the day, wherever its units end it. The numbers of the stock rows
-- are no part of it.
pub record RunsThrough (units : Units) (day : Day) (plan : List (List ℕ)) : Type 0 where
  pub is_plan : IsPlanOfUnits units day plan
  pub lists : (t : ℕ) → t < length day.trips → MayRunOf units.unit_type day t (list_of plan t)
  pub links : (l : ℕ) (link : Link) → slice_get day.links l ≡ Some link → link_holds units.unit_type link plan ≡ true
  pub homes : (u : ℕ) → u < units.count → BeginsAt day (units.home u) (duty day plan u)
  pub follows : (u : ℕ) → u < units.count → EachFollows (MayFollowOf units.unit_type day plan u) (duty day plan u)

-- The last: each station has, of each type, as many units at the end as are wanted.
abbrev pub EndsAsWanted : Units → Day → List (List ℕ) → Type 0
EndsAsWanted units day plan = (s m : ℕ) → s < length day.stations → m < length day.types
    → ending_of units day plan s m ≡ wanted_of day s m

-- a plan runs exactly where both hold (a law of timetable)
abbrev pub RunsInParts : Type 0
RunsInParts = (units : Units) (day : Day) (plan : List (List ℕ))
    → RunsOf units day plan ↔ (RunsThrough units day plan × EndsAsWanted units day plan)
