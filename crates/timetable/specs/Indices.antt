-- The order of multipliers: what the multiplier of each index belongs to.
use Rattle.std.specs.Prelude.{ℕ, ◌≡◌, ◌<◌, ◌↔◌, ◌⊎◌, ⊤, List, ◌++◌, length, Some, slice_get}
use Rattle.std.specs.List.{AllPairs, Contains}
use Rattle.timetable.specs.declared.day.indices.Place.{Place}
use Rattle.timetable.specs.declared.day.indices.Place.TheVariants.{Lambda, Mu, Sigma}
use Rattle.timetable.specs.Compositions.{compositions_of}
use Rattle.timetable.specs.Day.{Day}
use Rattle.timetable.specs.Handovers.{handovers_of}
use Rattle.timetable.specs.Lists.{listed, joined}
use Rattle.timetable.specs.Minutes.{minutes_of}

-- the station, the type, the departure minute, the hand-over and the composition are there
abbrev pub IsPlace : Day → Place → Type 0
IsPlace day (Lambda s m k) = (s < length day.stations) × (m < length day.types) × (k < length (minutes_of day s))
IsPlace day (Mu s m) = (s < length day.stations) × (m < length day.types)
IsPlace day (Sigma h c) = (h < length (handovers_of day)) × (c < length (compositions_of day))

-- for each station, for each type, for each departure minute of the station
abbrev pub lambdas_at : Day → ℕ → ℕ → List Place
lambdas_at day s m = listed (λ k. Lambda s m k) (length (minutes_of day s))

unfoldable pub lambdas_of : Day → List Place
lambdas_of day = joined (λ s. joined (lambdas_at day s) (length day.types)) (length day.stations)

-- for each station, for each type
unfoldable pub mus_of : Day → List Place
mus_of day = joined (λ s. listed (λ m. Mu s m) (length day.types)) (length day.stations)

-- for each hand-over, for each composition
unfoldable pub sigmas_of : Day → List Place
sigmas_of day = joined (λ h. listed (λ c. Sigma h c) (length (compositions_of day))) (length (handovers_of day))

abbrev pub places_of : Day → List Place
places_of day = lambdas_of day ++ (mus_of day ++ sigmas_of day)

-- ---- what these places are

-- a departure minute of a station, and a type
abbrev pub IsLambda : Place → Type 0
IsLambda (Lambda s m k) = ⊤
IsLambda (Mu s m) = ⊥
IsLambda (Sigma h c) = ⊥

-- A place comes before another: those of departure minutes come first, by station, then by type, then by minute; then
-- those of stations and types, by station, then by type; then those of hand-overs and compositions, by hand-over, then
-- by composition.
abbrev pub Precedes : Place → Place → Type 0
Precedes (Lambda s m k) (Lambda s' m' k') = (s < s') ⊎ ((s ≡ s') × ((m < m') ⊎ ((m ≡ m') × (k < k'))))
Precedes (Lambda s m k) (Mu s' m') = ⊤
Precedes (Lambda s m k) (Sigma h c) = ⊤
Precedes (Mu s m) (Lambda s' m' k) = ⊥
Precedes (Mu s m) (Mu s' m') = (s < s') ⊎ ((s ≡ s') × (m < m'))
Precedes (Mu s m) (Sigma h c) = ⊤
Precedes (Sigma h c) (Lambda s m k) = ⊥
Precedes (Sigma h c) (Mu s m) = ⊥
Precedes (Sigma h c) (Sigma h' c') = (h < h') ⊎ ((h ≡ h') × (c < c'))

-- Each place that is there has one index, and nothing else has an index. The indices are in order, and the first of
-- them, so many, are those of departure minutes.
pub record HaveMultipliers (day : Day) (places : List Place) (first : ℕ) : Type 0 where
  pub each : (place : Place) → Contains places place → IsPlace day place
  pub all : (place : Place) → IsPlace day place → Contains places place
  pub once : (i j : ℕ) (place : Place) → slice_get places i ≡ Some place → slice_get places j ≡ Some place → i ≡ j
  pub in_order : AllPairs Precedes places
  pub lambdas : (i : ℕ) (place : Place) → slice_get places i ≡ Some place → IsLambda place ↔ (i < first)

-- the index is that of the place, and no other index is
pub record IsIndexOf (day : Day) (place : Place) (index : ℕ) : Type 0 where
  pub within : index < length (places_of day)
  pub at : slice_get (places_of day) index ≡ Some place
  pub alone : (i : ℕ) → slice_get (places_of day) i ≡ Some place → i ≡ index
