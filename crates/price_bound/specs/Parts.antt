-- The parts of hand-overs, and the hand-overs whose second trip has another composition than the part.
use Rattle.std.specs.Prelude.{ℕ, ◌≡◌, ◌≢◌, ◌<◌, List, length, ◌==◌, Option, MatchOption, Some, slice_get}
use Rattle.std.specs.Prelude.{option_map, unwrap_or}
use Rattle.timetable.specs.declared.day.indices.Place.{Place}
use Rattle.timetable.specs.declared.day.indices.Place.TheVariants.{Sigma}
use Rattle.timetable.specs.declared.day.records.Handover.{Handover}
use Rattle.timetable.specs.Compositions.{compositions_of}
use Rattle.timetable.specs.Day.{Day}
use Rattle.timetable.specs.Handovers.{handovers_of}
use Rattle.price_bound.specs.FollowingPicks.{pick_of}
use Rattle.price_bound.specs.Slacks.{is_part}

-- a composition is the part of a hand-over, and no other is
pub record IsPartAt (day : Day) (picks : List ℕ) (h comp : ℕ) : Type 0 where
  pub listed : comp < length (compositions_of day)
  pub alone : (handover : Handover) (other : ℕ) → slice_get (handovers_of day) h ≡ Some handover →
      other < length (compositions_of day) → is_part day picks handover other ≡ (other == comp)

-- the composition of the second trip of a hand-over
abbrev pub second_pick : Day → List ℕ → ℕ → ℕ
second_pick day picks h =
    unwrap_or (option_map (λ handover. pick_of picks handover.second) (slice_get (handovers_of day) h)) 0

-- the second trip has the part
abbrev pub HasPart : Day → List ℕ → ℕ → Type 0
HasPart day picks h = IsPartAt day picks h (second_pick day picks h)

-- the second trip has another composition than the part, which is this one
pub record Misses (day : Day) (picks : List ℕ) (h comp : ℕ) : Type 0 where
  pub part : IsPartAt day picks h comp
  pub other : second_pick day picks h ≢ comp

-- what the second trip of a hand-over misses: the part, or nothing where it has it
abbrev pub IsMissed : Day → List ℕ → ℕ → Option ℕ → Type 0
IsMissed day picks h missed = MatchOption missed (HasPart day picks h) (Misses day picks h)

-- no second trip misses its part
abbrev pub NoneMissed : Day → List ℕ → Type 0
NoneMissed day picks = (h : ℕ) → h < length (handovers_of day) → HasPart day picks h

-- the place of a hand-over and its part, which the second trip misses, as those of the hand-overs before do not
pub record IsFirstMissed (day : Day) (picks : List ℕ) (place : Place) : Type 0 where
  pub handover : ℕ
  pub comp : ℕ
  pub known : handover < length (handovers_of day)
  pub is : place ≡ Sigma handover comp
  pub misses : Misses day picks handover comp
  pub before : (h : ℕ) → h < handover → HasPart day picks h
