-- How the compositions of a day are made of one another, by a unit more at an end. The number past the last has no
-- units: that train is no composition, and what each is made of in the end.
use Rattle.std.specs.Prelude.{ℕ, ◌≡◌, ◌<◌, ◌≤◌, List, [], ◌∷◌, ◌++◌, length, get_or, Bool, true, false}
use Rattle.rules.specs.declared.records.End.{End}
use Rattle.rules.specs.declared.records.End.TheVariants as at
use Rattle.timetable.specs.Compositions.{compositions_of, composition_at}
use Rattle.timetable.specs.Day.{Day}
use Rattle.timetable.specs.Links.{turned}
use Rattle.timetable.specs.Turns.{Consists}
use Rattle.price_bound.specs.declared.trains.Trains.{Trains}

-- the whole is the rest and one unit at this end; where neither end is named, no units are left
abbrev pub IsUnitMore : End → List ℕ → List ℕ → ℕ → Type 0
IsUnitMore at.None whole rest unit = rest ≡ []
IsUnitMore at.Rear whole rest unit = whole ≡ rest ++ unit ∷ []
IsUnitMore at.Front whole rest unit = whole ≡ unit ∷ rest

-- a composition is that of another number with one unit more at this end
pub record IsRest (day : Day) (end : End) (comp rest : ℕ) : Type 0 where
  pub within : rest ≤ length (compositions_of day)
  pub unit : ℕ
  pub is : IsUnitMore end (composition_at day comp) (composition_at day rest) unit

-- so is each composition of the day
abbrev pub AreRests : Day → End → (ℕ → ℕ) → Type 0
AreRests day end rest = (comp : ℕ) → comp < length (compositions_of day) → IsRest day end comp (rest comp)

-- a composition is another one with none or more units at this end
pub record IsMadeOf (day : Day) (end : End) (comp part : ℕ) : Type 0 where
  pub listed : part < length (compositions_of day)
  pub more : List ℕ
  pub is : Consists end (composition_at day comp) (composition_at day part) more

-- each composition, as it stands after a reversal, is that of a number
pub record IsTurnedPlace (day : Day) (reversed : Bool) (comp place : ℕ) : Type 0 where
  pub listed : place < length (compositions_of day)
  pub is : composition_at day place ≡ turned reversed (composition_at day comp)

-- a composition has a unit of this type, which is one of the day, at its rear
pub record IsLast (day : Day) (comp last : ℕ) : Type 0 where
  pub rest : List ℕ
  pub is : composition_at day comp ≡ rest ++ last ∷ []
  pub known : last < length day.types

abbrev pub AreTurnedPlaces : Day → Bool → (ℕ → ℕ) → Type 0
AreTurnedPlaces day reversed place = (comp : ℕ) → comp < length (compositions_of day)
    → IsTurnedPlace day reversed comp (place comp)

-- ---- lists of them

abbrev pub place_at : List ℕ → ℕ → ℕ
place_at places comp = get_or places comp 0

-- a list has something for each number below n
pub record AreEach (Is : ℕ → ℕ → Type 0) (n : ℕ) (places : List ℕ) : Type 0 where
  pub long : length places ≡ n
  pub each : (k : ℕ) → k < n → Is k (place_at places k)

-- the list of the compositions without the unit at an end, and of those after a reversal or without one
abbrev pub rests_at : End → Trains → List ℕ
rests_at at.None trains = trains.none.items
rests_at at.Rear trains = trains.fronts.items
rests_at at.Front trains = trains.rears.items

abbrev pub turned_at : Bool → Trains → List ℕ
turned_at true trains = trains.turned.items
turned_at false trains = trains.same.items

-- the lists are those of a day
pub record AreTrains (day : Day) (trains : Trains) : Type 0 where
  pub rests : (end : End) → AreEach (IsRest day end) (length (compositions_of day)) (rests_at end trains)
  pub turned : (r : Bool) → AreEach (IsTurnedPlace day r) (length (compositions_of day)) (turned_at r trains)
  pub lasts : AreEach (IsLast day) (length (compositions_of day)) trains.lasts.items

-- a list of types is another one and a unit more at an end
pub record IsOneLess (end : End) (whole rest : List ℕ) : Type 0 where
  pub unit : ℕ
  pub is : IsUnitMore end whole rest unit
