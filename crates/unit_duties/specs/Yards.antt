-- Units that wait in yards, and which of them is taken next.
use Rattle.std.specs.Prelude.{ℕ, ◌≡◌, ◌<◌, ◌≤◌, ◌⊎◌, ◌↔◌, ⊤, List, [], ◌∷◌, Option, Some}
use Rattle.std.specs.List.{Contains}
use Rattle.std.specs.BTreeSet.{BTreeSet}
use Rattle.inventory.specs.NamedUnits.{InYard, next_unit}
use Rattle.timetable.specs.Day.{Day, home_of, type_of, unit_count}
use Rattle.timetable.specs.Lists.{count_of}
use Rattle.unit_duties.specs.declared.yards.Waiting.{Waiting}

-- a unit of a type waits in the yard of a station, and is ready from a minute on
abbrev pub Waits : BTreeSet Waiting → ℕ → ℕ → ℕ → ℕ → Type 0
Waits yards s m ready u = Contains yards.keys (record { station = s; unit_type = m; ready = ready; unit = u })

-- none of the type is ready at the minute
abbrev pub NoneReady : BTreeSet Waiting → ℕ → ℕ → ℕ → Type 0
NoneReady yards s m minute = (ready u : ℕ) → Waits yards s m ready u → minute < ready

-- of those of the type in the yard it was ready first, and of these it has the smallest number; and it is ready at the
-- minute
pub record IsFirstReady (yards : BTreeSet Waiting) (s m minute : ℕ) (found : Waiting) : Type 0 where
  pub there : Waits yards s m found.ready found.unit
  pub station : found.station ≡ s
  pub unit_type : found.unit_type ≡ m
  pub ready : found.ready ≤ minute
  pub first : (ready u : ℕ) → Waits yards s m ready u
      → (found.ready < ready) ⊎ ((found.ready ≡ ready) × (found.unit ≤ u))

-- this unit was taken, and the others still wait
pub record IsTaken (yards : BTreeSet Waiting) (s m minute : ℕ) (after : BTreeSet Waiting) (u : ℕ) : Type 0 where
  pub ready : ℕ
  pub is_first : IsFirstReady yards s m minute (record { station = s; unit_type = m; ready = ready; unit = u })
  pub others : (w : Waiting) → Contains after.keys w
      ↔ (Contains yards.keys w × (w ≡ record { station = s; unit_type = m; ready = ready; unit = u } → ⊥))

-- each unit below a number waits at its home, ready from the first minute on, and no other
pub record AreAtHomeBelow (day : Day) (bound : ℕ) (yards : BTreeSet Waiting) : Type 0 where
  pub each : (w : Waiting) → Contains yards.keys w
      ↔ ((w.unit < bound) × (home_of day w.unit ≡ w.station) × (type_of day w.unit ≡ w.unit_type) × (w.ready ≡ 0))

-- the same of all units of the day
abbrev pub AreAtHome : Day → BTreeSet Waiting → Type 0
AreAtHome day yards = AreAtHomeBelow day (unit_count day) yards

-- the yards hold the units that stand in them, but for some that were chosen already
pub record AreStanding (day : Day) (stands : ℕ → Option InYard) (chosen : List ℕ)
    (yards : BTreeSet Waiting) : Type 0 where
  pub each : (w : Waiting) → Contains yards.keys w
      ↔ ((w.unit < unit_count day) × (type_of day w.unit ≡ w.unit_type)
      × (stands w.unit ≡ Some (record { station = w.station; ready = w.ready }))
      × (count_of w.unit chosen ≡ 0))

-- a unit of a type stands in the yard of a station, is ready at a minute, and was not chosen
pub record IsFree (day : Day) (stands : ℕ → Option InYard) (s minute : ℕ) (chosen : List ℕ) (m u : ℕ) : Type 0 where
  pub known : u < unit_count day
  pub ready : ℕ
  pub stands_there : stands u ≡ Some (record { station = s; ready = ready })
  pub in_time : ready ≤ minute
  pub unit_type : type_of day u ≡ m
  pub not_chosen : count_of u chosen ≡ 0

-- for each of these types, one after another, a unit is free when the units for those before it were taken
abbrev pub AllFound : Day → (ℕ → Option InYard) → ℕ → ℕ → List ℕ → List ℕ → Type 0
AllFound day stands s minute chosen [] = ⊤
AllFound day stands s minute chosen (m ∷ ms) =
    ((u : ℕ) × IsFree day stands s minute chosen m u)
    × AllFound day stands s minute (next_unit day stands s minute chosen m ∷ chosen) ms

-- these units were put into the yard of a station, ready from a minute on, and the others wait as before
pub record ArePutIn (day : Day) (s ready : ℕ) (us : List ℕ) (yards after : BTreeSet Waiting) : Type 0 where
  pub each : (w : Waiting) → Contains after.keys w
      ↔ (((1 ≤ count_of w.unit us) × (w.station ≡ s) × (w.unit_type ≡ type_of day w.unit) × (w.ready ≡ ready))
      ⊎ Contains yards.keys w)

-- these units no longer wait, and the others wait as before
pub record AreLeft (us : List ℕ) (yards after : BTreeSet Waiting) : Type 0 where
  pub each : (w : Waiting) → Contains after.keys w ↔ (Contains yards.keys w × (count_of w.unit us ≡ 0))
