-- Which picks are solutions.
use Rattle.std.specs.Prelude.{ℕ, ◌≡◌, ◌<◌, ◌↔◌, List, length, true, None, Some, slice_get}
use Rattle.rules.specs.declared.records.Link.{Link}
use Rattle.timetable.specs.Accepted.{IsDay, AreLinks, IsStocked}
use Rattle.timetable.specs.Admissible.{is_admissible}
use Rattle.timetable.specs.Day.{Day}
use Rattle.timetable.specs.Links.{list_of, itself, link_holds}
use Rattle.timetable.specs.Picks.{ArePicks, picked, IsSolution}
use Rattle.inventory.specs.Counts.{AreServed}
use Rattle.inventory.specs.StockFaults.{IsFirstFault}

-- picks are the types of a plan that runs exactly where the yards serve their compositions
abbrev pub SolutionsAreServed : Type 0
SolutionsAreServed = (day : Day) (picks : List ℕ) → IsDay day → AreLinks day → IsStocked day → ArePicks day picks
    → IsSolution day picks ↔ AreServed day (picked day picks)

-- compositions that may run on their trips and keep the rule of each link
pub record KeepTheRules (day : Day) (lists : List (List ℕ)) : Type 0 where
  pub admissible : (t : ℕ) → t < length day.trips → is_admissible day t (list_of lists t) ≡ true
  pub links : (l : ℕ) (link : Link) → slice_get day.links l ≡ Some link → link_holds itself link lists ≡ true

-- picks are a solution exactly where they keep the rules and the yards have no fault
abbrev pub FaultsDecide : Type 0
FaultsDecide = (day : Day) (picks : List ℕ) → IsDay day → AreLinks day → IsStocked day → ArePicks day picks
    → IsSolution day picks ↔ (KeepTheRules day (picked day picks) × IsFirstFault day (picked day picks) None)
