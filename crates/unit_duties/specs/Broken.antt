-- Which links are broken by the compositions that are picked: those whose rule does not hold of their types.
use Rattle.std.specs.Prelude.{ℕ, ◌≡◌, ◌<◌, IsTrue, List, length, Some, false, true, slice_get, unwrap_or}
use Rattle.rules.specs.declared.records.Link.{Link}
use Rattle.timetable.specs.Admissible.{is_admissible}
use Rattle.timetable.specs.Day.{Day}
use Rattle.timetable.specs.Links.{itself, list_of, link_holds}
use Rattle.timetable.specs.Picks.{picked}

-- the composition that is picked for a trip, and the first one where there is no such trip
abbrev pub pick_of : List ℕ → ℕ → ℕ
pick_of picks t = unwrap_or (slice_get picks t) 0

-- each picked composition may run on its trip
pub record AreAdmissible (day : Day) (picks : List ℕ) : Type 0 where
  pub each : (t : ℕ) → t < length day.trips → IsTrue (is_admissible day t (list_of (picked day picks) t))

-- the rule of each link below a number holds of lists of types
abbrev pub HoldBelow : Day → List (List ℕ) → ℕ → Type 0
HoldBelow day types bound = (l : ℕ) (link : Link) → l < bound → slice_get day.links l ≡ Some link
    → link_holds itself link types ≡ true

-- the rule of each link of the day holds
abbrev pub EachHolds : Day → List (List ℕ) → Type 0
EachHolds day types = HoldBelow day types (length day.links)

-- the link is the first one whose rule does not hold
pub record IsFirstBroken (day : Day) (types : List (List ℕ)) (l : ℕ) : Type 0 where
  pub link : Link
  pub at : slice_get day.links l ≡ Some link
  pub broken : link_holds itself link types ≡ false
  pub before : HoldBelow day types l
