-- How often a unit is in the lists of trips: what arrives with a trip is given to the yard or stays in the train for a
-- later trip, and what departs with one is taken from the yard or stayed in the train of an earlier one.
use Rattle.std.specs.Prelude.{ℕ, ◌≡◌, ◌+◌, List, length, IsTrue, true, Some, slice_get}
use Rattle.std.specs.List.{sum_by}
use Rattle.rules.specs.declared.records.Link.{Link}
use Rattle.timetable.specs.Accepted.{AreLinks}
use Rattle.timetable.specs.Day.{Day}
use Rattle.timetable.specs.Links.{list_of, link_holds, arriving_in, departing_in, kept_by, given_by, taken_by}
use Rattle.timetable.specs.Links.{kept_with, given_with, taken_with}
use Rattle.timetable.specs.Lists.{count_of, has, sum_below}

-- ---- at a link

-- what a link keeps from one trip to another, how often it has a unit
abbrev pub times_kept : (ℕ → ℕ) → Link → List (List ℕ) → ℕ → ℕ → ℕ → ℕ
times_kept type_of link lists u a b = count_of u (kept_by type_of link.kind link.reverse lists a b)

-- The list of an arriving trip has a unit as often as what is given, and what is kept for the departing trips, have it
-- together; and the list of a departing trip as often as what is taken, and what was kept from the arriving trips.
pub record LinkCounts (type_of : ℕ → ℕ) (link : Link) (lists : List (List ℕ)) (u : ℕ) : Type 0 where
  pub arriving : (a : ℕ) → IsTrue (has a (arriving_in link.kind))
      → count_of u (list_of lists a)
      ≡ count_of u (given_by type_of link.kind link.reverse lists)
      + sum_by (λ b. times_kept type_of link lists u a b) (departing_in link.kind)
  pub departing : (b : ℕ) → IsTrue (has b (departing_in link.kind))
      → count_of u (list_of lists b)
      ≡ count_of u (taken_by type_of link.kind link.reverse lists)
      + sum_by (λ a. times_kept type_of link lists u a b) (arriving_in link.kind)

-- so it is at each link whose rule holds, be the lists of units or of types
abbrev pub LinksCount : Type 0
LinksCount = (type_of : ℕ → ℕ) (link : Link) (lists : List (List ℕ)) (u : ℕ)
    → link_holds type_of link lists ≡ true → LinkCounts type_of link lists u

-- ---- on a day

-- the rule of each link holds
abbrev pub EachLinkHolds : (ℕ → ℕ) → Day → List (List ℕ) → Type 0
EachLinkHolds type_of day lists =
    (l : ℕ) (link : Link) → slice_get day.links l ≡ Some link → link_holds type_of link lists ≡ true

-- the same of a trip, with all trips of the day
pub record TripCounts (type_of : ℕ → ℕ) (day : Day) (lists : List (List ℕ)) (t u : ℕ) : Type 0 where
  pub arriving : count_of u (list_of lists t)
      ≡ count_of u (given_with type_of day lists t)
      + sum_below (λ b. count_of u (kept_with type_of day lists t b)) (length day.trips)
  pub departing : count_of u (list_of lists t)
      ≡ count_of u (taken_with type_of day lists t)
      + sum_below (λ a. count_of u (kept_with type_of day lists a t)) (length day.trips)

-- so it is of each trip where the rule of each link holds, be the lists of any units, of a plan that runs or not, or of
-- types
abbrev pub TripsCount : Type 0
TripsCount = (type_of : ℕ → ℕ) (day : Day) (lists : List (List ℕ)) (t u : ℕ)
    → AreLinks day → EachLinkHolds type_of day lists → TripCounts type_of day lists t u
