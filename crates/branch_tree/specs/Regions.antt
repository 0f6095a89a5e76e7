-- A region: a set of compositions for each trip.
use Rattle.std.specs.Prelude.{ℕ, ◌*◌, ◌<◌, ◌≡◌, All, IsTrue, List, [], ◌∷◌, map, get_or, length, Bool, true, false}
use Rattle.std.specs.Prelude.{◌&&◌, ◌==◌}
use Rattle.std.specs.List.{range_with_len}
use Rattle.timetable.specs.Day.{Day}
use Rattle.timetable.specs.Admissible.{is_admissible}
use Rattle.timetable.specs.Compositions.{composition_at}
use Rattle.branch_tree.specs.Sets.{HasMember, is_member, set_of, size_of}

-- the set of a trip, which is empty where there is no such trip
abbrev pub set_at : List (List Bool) → ℕ → List Bool
set_at region trip = get_or region trip []

-- whether a composition is in the set of a trip
abbrev pub has : List (List Bool) → ℕ → ℕ → Bool
has region trip comp = is_member (set_at region trip) comp

-- whether picks are in a region: one for each trip, each in its trip's set
abbrev pub are_in : List ℕ → List (List Bool) → Bool
are_in [] [] = true
are_in [] (set ∷ sets) = false
are_in (comp ∷ comps) [] = false
are_in (comp ∷ comps) (set ∷ sets) = is_member set comp && are_in comps sets

-- how many picks are in a region: the product of the sizes of its sets
abbrev pub choices_of : List (List Bool) → ℕ
choices_of [] = 1
choices_of (set ∷ sets) = size_of set * choices_of sets

-- each trip has one composition
abbrev pub IsSingle : List (List Bool) → Type 0
IsSingle region = All (λ set. size_of set ≡ 1) region

-- each trip has some composition
abbrev pub IsFilled : List (List Bool) → Type 0
IsFilled region = All HasMember region

-- a region over so many trips and a catalogue: a set for each trip, of compositions of the catalogue
pub record IsOver (trips : ℕ) (catalogue : List (List ℕ)) (region : List (List Bool)) : Type 0 where
  pub each : length region ≡ trips
  pub within : (trip comp : ℕ) → IsTrue (has region trip comp) → comp < length catalogue

-- the region of these picks alone
abbrev pub alone : List ℕ → List (List Bool)
alone picks = map (λ pick. set_of (λ comp. comp == pick)) picks

-- the region of a day, in which each trip has the compositions that are admissible for it
unfoldable pub root_of : Day → List (List Bool)
root_of day =
    map (λ trip. set_of (λ comp. is_admissible day trip (composition_at day comp)))
    (range_with_len 0 (length day.trips))
