-- What is found of a night, part by part.
use Rattle.std.specs.Prelude.{ℕ, ◌≡◌, ◌<◌, ◌≤◌, ◌≢◌, ◌⊎◌, length}
use Rattle.timetable.specs.Day.{Day, leaves, wanted_of}
use Rattle.timetable.specs.Starts.{start_of}
use Rattle.week_units.specs.declared.nights.Difference.{Difference}
use Rattle.week_units.specs.Weeks.{IsFirstDiffering}

-- the difference is the first
abbrev pub IsDifference : Day → Day → Difference → Type 0
IsDifference before day found = IsFirstDiffering before day found.station found.unit_type found.end found.start

-- at a station as many units of each type start the day as end the day before
abbrev pub AreSameIn : Day → Day → ℕ → Type 0
AreSameIn before day s = (m : ℕ) → m < length day.types → wanted_of before s m ≡ start_of day s m

-- the difference is the first at a station
pub record IsFirstDifferingIn (before day : Day) (s : ℕ) (found : Difference) : Type 0 where
  pub station : found.station ≡ s
  pub unit_type : found.unit_type < length day.types
  pub at_end : found.end ≡ wanted_of before s found.unit_type
  pub at_start : found.start ≡ start_of day s found.unit_type
  pub differ : found.end ≢ found.start
  pub earlier : (m : ℕ) → m < found.unit_type → wanted_of before s m ≡ start_of day s m

-- at this minute the first trip of the day leaves; it is 0 where there is none
pub record IsFirstMinute (day : Day) (minute : ℕ) : Type 0 where
  pub least : (b : ℕ) → b < length day.trips → minute ≤ leaves day b
  pub is : ((b : ℕ) × (b < length day.trips) × (leaves day b ≡ minute)) ⊎ ((length day.trips ≡ 0) × (minute ≡ 0))
