-- Days that make a week: of the same types and the same stations, each beginning with as many units as the day before
-- ends with, and none with a unit that is ready too late. Days are counted from 1.
use Rattle.std.specs.Prelude.{ℕ, suc, ◌+◌, ◌<◌, ◌≡◌, ◌≢◌, ◌⊎◌, List, [], ◌∷◌, length, All, ⊤}
use Rattle.timetable.specs.Accepted.{IsSoundDay}
use Rattle.timetable.specs.Day.{Day, leaves, ready_at, wanted_of}
use Rattle.timetable.specs.Starts.{start_of}
use Rattle.inventory.specs.StockFaults.{IsYard, IsYardBefore}
use Rattle.week_units.specs.declared.nights.TheConstants.{MINUTES_OF_A_DAY}
use Rattle.week_units.specs.declared.refusal.WeekRefusal.{WeekRefusal}
use Rattle.week_units.specs.declared.refusal.WeekRefusal.TheVariants.{TypesDiffer, StationsDiffer, NightDiffers}
use Rattle.week_units.specs.declared.refusal.WeekRefusal.TheVariants.{LateTrip, NoMemory}

-- ---- from one day to the next

-- the rows of types and of stations are those of another day
pub record HasRowsOf (first day : Day) : Type 0 where
  pub types : day.types ≡ first.types
  pub stations : day.stations ≡ first.stations

-- as many units of each type stand at each station at the start of a day as are wanted there at the end of the day
-- before
abbrev pub BeginsAsEnded : Day → Day → Type 0
BeginsAsEnded before day = (s m : ℕ) → IsYard day s m → wanted_of before s m ≡ start_of day s m

-- the reallocation after a trip of the day before, whether it gives a unit to a yard or not, has not ended by a minute
-- of the day
abbrev pub IsReadyAfter : Day → ℕ → ℕ → Type 0
IsReadyAfter before t minute = MINUTES_OF_A_DAY + minute < ready_at before t

-- it is ready too late: after some trip of the day has left, or, where the day has none, after it has begun
abbrev pub IsLate : Day → Day → ℕ → Type 0
IsLate before day t =
    ((b : ℕ) × (b < length day.trips) × IsReadyAfter before t (leaves day b))
    ⊎ ((length day.trips ≡ 0) × IsReadyAfter before t 0)

-- no trip of the day before is late
abbrev pub NoneLate : Day → Day → Type 0
NoneLate before day = (t : ℕ) → t < length before.trips → ¬ IsLate before day t

-- a day goes on from the day before, in a week with this first day
pub record GoesOnFrom (first before day : Day) : Type 0 where
  pub rows : HasRowsOf first day
  pub begins : BeginsAsEnded before day
  pub in_time : NoneLate before day

-- so do these days, one after another
abbrev pub EachGoesOn : Day → Day → List Day → Type 0
EachGoesOn first before [] = ⊤
EachGoesOn first before (day ∷ days) = GoesOnFrom first before day × EachGoesOn first day days

-- The days of a week.
abbrev pub AreWeek : List Day → Type 0
AreWeek [] = ⊤
AreWeek (day ∷ days) = All IsSoundDay (day ∷ days) × EachGoesOn day day days

-- ---- why days make no week

-- the station and the type are the first, by station and then by type, of which a day begins with another number of
-- units than ends the day before
pub record IsFirstDiffering (before day : Day) (station unit_type end start : ℕ) : Type 0 where
  pub yard : IsYard day station unit_type
  pub at_end : end ≡ wanted_of before station unit_type
  pub at_start : start ≡ start_of day station unit_type
  pub differ : end ≢ start
  pub earlier : (s m : ℕ) → IsYard day s m → IsYardBefore s m station unit_type
      → wanted_of before s m ≡ start_of day s m

-- the trip is the first of the day before that is late
pub record IsFirstLate (before day : Day) (trip : ℕ) : Type 0 where
  pub known : trip < length before.trips
  pub late : IsLate before day trip
  pub earlier : (t : ℕ) → t < trip → ¬ IsLate before day t

-- the day of this number does not go on from the day before, and this is the first reason for it
abbrev pub IsFaultOf : ℕ → Day → Day → Day → WeekRefusal → Type 0
IsFaultOf number first before day (TypesDiffer said) = (said ≡ number) × (day.types ≢ first.types)
IsFaultOf number first before day (StationsDiffer said) =
    (said ≡ number) × (day.types ≡ first.types) × (day.stations ≢ first.stations)
IsFaultOf number first before day (NightDiffers said station unit_type end start) =
    (said ≡ number) × HasRowsOf first day × IsFirstDiffering before day station unit_type end start
IsFaultOf number first before day (LateTrip said trip) =
    (said ≡ number) × HasRowsOf first day × BeginsAsEnded before day × IsFirstLate before day trip
IsFaultOf number first before day NoMemory = ⊥

-- the first day that does not go on, of days from this number on, and the first reason for it
abbrev pub IsFirstFaultFrom : ℕ → Day → Day → List Day → WeekRefusal → Type 0
IsFirstFaultFrom number first before [] refusal = ⊥
IsFirstFaultFrom number first before (day ∷ days) refusal =
    IsFaultOf number first before day refusal
    ⊎ (GoesOnFrom first before day × IsFirstFaultFrom (suc number) first day days refusal)

-- The first reason why days make no week.
abbrev pub IsFirstFault : List Day → WeekRefusal → Type 0
IsFirstFault [] refusal = ⊥
IsFirstFault (day ∷ days) refusal = IsFirstFaultFrom 2 day day days refusal
