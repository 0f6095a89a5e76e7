-- The minutes at which trips leave a station.
use Rattle.std.specs.Prelude.{ℕ, ◌≡◌, ◌<◌, List, [], ◌∷◌, length, ◌==◌, if◌then◌else◌, nat_lt}
use Rattle.std.specs.List.{AllPairs, Contains}
use Rattle.rules.specs.declared.records.Trip.{Trip}
use Rattle.timetable.specs.Day.{Day, leaves, from_of}

-- ---- what these minutes are

-- a trip of the day leaves the station at the minute
pub record LeavesAt (day : Day) (s m : ℕ) : Type 0 where
  pub trip : ℕ
  pub known : trip < length day.trips
  pub station : from_of day trip ≡ s
  pub minute : leaves day trip ≡ m

-- These are the departure minutes of the station: trips leave it at each of them, and at no other minute, and they are
-- in rising order, so that none is there twice.
pub record AreMinutes (day : Day) (s : ℕ) (minutes : List ℕ) : Type 0 where
  pub rise : AllPairs (λ a b. a < b) minutes
  pub left : (m : ℕ) → Contains minutes m → LeavesAt day s m
  pub all : (m : ℕ) → LeavesAt day s m → Contains minutes m

-- ---- the minutes

-- a list that rises, with a minute at its place, where it isn't there yet
abbrev pub inserted : ℕ → List ℕ → List ℕ
inserted m [] = m ∷ []
inserted m (k ∷ ks) = if nat_lt k m then k ∷ inserted m ks else if k == m then k ∷ ks else m ∷ k ∷ ks

-- with the departure of a trip, if it leaves the station
abbrev pub with_departure : ℕ → Trip → List ℕ → List ℕ
with_departure s trip minutes = if trip.from == s then inserted trip.departure minutes else minutes

abbrev pub minutes_in : List Trip → ℕ → List ℕ
minutes_in [] s = []
minutes_in (trip ∷ trips) s = with_departure s trip (minutes_in trips s)

unfoldable pub minutes_of : Day → ℕ → List ℕ
minutes_of day s = minutes_in day.trips s
