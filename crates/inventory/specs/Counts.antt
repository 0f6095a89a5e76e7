-- How many units of a type stand at a station, read off lists of types: at the start, less those that trips took, and
-- those that they gave.
use Rattle.std.specs.Prelude.{ℕ, ◌+◌, ◌≡◌, ◌<◌, ◌≤◌, List, length, true, ◌==◌, ◌&&◌, if◌then◌else◌, nat_le, slice_get}
use Rattle.std.specs.Prelude.{get_or, Some, ℤ, pos, ◌-ℤ◌}
use Rattle.rules.specs.declared.records.Link.{Link}
use Rattle.timetable.specs.Admissible.{is_admissible}
use Rattle.timetable.specs.Day.{Day, leaves, from_of, to_of, wanted_of, ready_at}
use Rattle.timetable.specs.Links.{list_of, itself, link_holds, given_with, taken_with}
use Rattle.timetable.specs.Lists.{count_of, sum_below}
use Rattle.timetable.specs.Minutes.{minutes_of}
use Rattle.timetable.specs.Starts.{start_of}

-- how many units of a type a trip takes from the yard, and how many it gives to it
abbrev pub takes_of : Day → List (List ℕ) → ℕ → ℕ → ℕ
takes_of day lists m t = count_of m (taken_with itself day lists t)

abbrev pub gives_of : Day → List (List ℕ) → ℕ → ℕ → ℕ
gives_of day lists m t = count_of m (given_with itself day lists t)

-- units of a type that were taken at a station at a minute or earlier, and that were given there and are ready at the
-- minute
unfoldable pub taken_until : Day → List (List ℕ) → ℕ → ℕ → ℕ → ℕ
taken_until day lists s m minute =
    sum_below (λ t. if (from_of day t == s) && nat_le (leaves day t) minute then takes_of day lists m t else 0)
    (length day.trips)

unfoldable pub ready_until : Day → List (List ℕ) → ℕ → ℕ → ℕ → ℕ
ready_until day lists s m minute =
    sum_below (λ t. if (to_of day t == s) && nat_le (ready_at day t) minute then gives_of day lists m t else 0)
    (length day.trips)

-- all of them
unfoldable pub all_taken : Day → List (List ℕ) → ℕ → ℕ → ℕ
all_taken day lists s m = sum_below (λ t. if from_of day t == s then takes_of day lists m t else 0) (length day.trips)

unfoldable pub all_given : Day → List (List ℕ) → ℕ → ℕ → ℕ
all_given day lists s m = sum_below (λ t. if to_of day t == s then gives_of day lists m t else 0) (length day.trips)

-- how many stand there after a minute: below zero where the yard is short of them
abbrev pub count_at : Day → List (List ℕ) → ℕ → ℕ → ℕ → ℤ
count_at day lists s m minute =
    pos (start_of day s m + ready_until day lists s m minute) -ℤ pos (taken_until day lists s m minute)

-- the same after the departure minute of the station at a place in their order
abbrev pub count_of_place : Day → List (List ℕ) → ℕ → ℕ → ℕ → ℤ
count_of_place day lists s m k = count_at day lists s m (get_or (minutes_of day s) k 0)

-- how many stand there at the end of the day
abbrev pub end_count_of : Day → List (List ℕ) → ℕ → ℕ → ℤ
end_count_of day lists s m = pos (start_of day s m + all_given day lists s m) -ℤ pos (all_taken day lists s m)

-- The yards serve the compositions: each may run on its trip, each link's rule holds, no yard is ever short of a unit,
-- and every end count is the one that is wanted.
pub record AreServed (day : Day) (lists : List (List ℕ)) : Type 0 where
  pub trips : length lists ≡ length day.trips
  pub admissible : (t : ℕ) → t < length day.trips → is_admissible day t (list_of lists t) ≡ true
  pub links : (l : ℕ) (link : Link) → slice_get day.links l ≡ Some link → link_holds itself link lists ≡ true
  pub never_short : (s m minute : ℕ)
      → taken_until day lists s m minute ≤ start_of day s m + ready_until day lists s m minute
  pub ends : (s m : ℕ) → s < length day.stations → m < length day.types
      → start_of day s m + all_given day lists s m ≡ wanted_of day s m + all_taken day lists s m
