-- Units that are numbered in another way, and plans of them.
use Rattle.std.specs.Prelude.{ℕ, zero, suc, ◌+◌, ◌≡◌, ◌<◌, ◌≤◌, ◌↔◌, List, map, Bool, ◌==◌, ◌&&◌, if◌then◌else◌}
use Rattle.rules.specs.declared.records.Stock.{Stock}
use Rattle.timetable.specs.Cost.{plan_cost_of}
use Rattle.timetable.specs.Day.{Day, Units}
use Rattle.timetable.specs.Duties.{duty}
use Rattle.timetable.specs.Lists.{count_below}
use Rattle.timetable.specs.Running.{IsPlanOfUnits, RunsOf, RunsThrough, ending_of}

-- ---- where units stand

-- a unit is of a type and stands at a station at the start of the day
abbrev pub is_at : Units → ℕ → ℕ → ℕ → Bool
is_at units s m u = (units.home u == s) && (units.unit_type u == m)

-- how many units are so
abbrev pub standing_at : Units → ℕ → ℕ → ℕ
standing_at units s m = count_below (is_at units s m) units.count

-- ---- numbers

-- Each unit is given the number of a unit of the same type that stands at the same station, and no two are given one.
-- Some of the others may be left over.
pub record AreAmong (units others : Units) (number : ℕ → ℕ) : Type 0 where
  pub known : (u : ℕ) → u < units.count → number u < others.count
  pub once : (u v : ℕ) → u < units.count → v < units.count → number u ≡ number v → u ≡ v
  pub unit_type : (u : ℕ) → u < units.count → others.unit_type (number u) ≡ units.unit_type u
  pub home : (u : ℕ) → u < units.count → others.home (number u) ≡ units.home u

-- So it is, and there are as many of these as of those: none is left over.
pub record IsRenumbering (units others : Units) (number : ℕ → ℕ) : Type 0 where
  pub among : AreAmong units others number
  pub count : others.count ≡ units.count

-- the plan with these numbers
abbrev pub renumbered : (ℕ → ℕ) → List (List ℕ) → List (List ℕ)
renumbered number plan = map (map number) plan

-- The plan with these numbers runs exactly where the plan runs. Its trips have the same types, so it costs the same,
-- and each unit has the same duty.
pub record RunsAlike (units others : Units) (number : ℕ → ℕ) (day : Day) (plan : List (List ℕ)) : Type 0 where
  pub runs : RunsOf units day plan ↔ RunsOf others day (renumbered number plan)
  pub types : map (map others.unit_type) (renumbered number plan) ≡ map (map units.unit_type) plan
  pub cost : plan_cost_of others day (renumbered number plan) ≡ plan_cost_of units day plan
  pub duties : (u : ℕ) → u < units.count → duty day (renumbered number plan) (number u) ≡ duty day plan u

abbrev pub RenumberedPlansRun : Type 0
RenumberedPlansRun = (units others : Units) (number : ℕ → ℕ) (day : Day) (plan : List (List ℕ))
    → IsRenumbering units others number → IsPlanOfUnits units day plan → RunsAlike units others number day plan

-- ---- among more units, and with other stock rows

-- A plan that runs through the day, runs with these numbers through the same day with any stock rows. Its trips have
-- the same types, so it costs the same, and each unit has the same duty. Units that are left over stay where they
-- stood: of each type as many more end the day at each station as stood there more at its start.
pub record RunsAmong (units others : Units) (number : ℕ → ℕ) (day : Day) (rows : List Stock) (plan : List (List ℕ))
    : Type 0 where
  pub runs : RunsThrough units day plan → RunsThrough others (record day { stock = rows }) (renumbered number plan)
  pub types : map (map others.unit_type) (renumbered number plan) ≡ map (map units.unit_type) plan
  pub cost : plan_cost_of others (record day { stock = rows }) (renumbered number plan) ≡ plan_cost_of units day plan
  pub duties : (u : ℕ) → u < units.count
      → duty (record day { stock = rows }) (renumbered number plan) (number u) ≡ duty day plan u
  pub ends : (s m : ℕ)
      → ending_of others (record day { stock = rows }) (renumbered number plan) s m + standing_at units s m
      ≡ ending_of units day plan s m + standing_at others s m

abbrev pub PlansRunAmong : Type 0
PlansRunAmong = (units others : Units) (number : ℕ → ℕ) (day : Day) (rows : List Stock) (plan : List (List ℕ))
    → AreAmong units others number → IsPlanOfUnits units day plan → RunsAmong units others number day rows plan

-- ---- which renumberings there are

-- the numbers back: those of before
pub record IsRenumberedBack (units others : Units) (number back : ℕ → ℕ) : Type 0 where
  pub renumbers : IsRenumbering others units back
  pub back_is : (u : ℕ) → u < units.count → back (number u) ≡ u
  pub number_is : (v : ℕ) → v < others.count → number (back v) ≡ v

abbrev pub UnitsAreRenumberedBack : Type 0
UnitsAreRenumberedBack = (units others : Units) (number : ℕ → ℕ) → IsRenumbering units others number
    → (back : ℕ → ℕ) × IsRenumberedBack units others number back

-- the unit that has so many units of the type and the station before it, by rising number; 0 where there is none
abbrev pub unit_after : Units → ℕ → ℕ → ℕ → ℕ → ℕ
unit_after units s m before zero = 0
unit_after units s m before (suc u) =
    if is_at units s m u && (count_below (is_at units s m) u == before) then u else unit_after units s m before u

-- how many units of its type at its station come before a unit, by number
abbrev pub before_unit : Units → ℕ → ℕ
before_unit units u = count_below (is_at units (units.home u) (units.unit_type u)) u

-- the k-th unit of a type at a station is given the number of the k-th of the others of this type there
unfoldable pub kth_number : Units → Units → ℕ → ℕ
kth_number units others u = unit_after others (units.home u) (units.unit_type u) (before_unit units u) others.count

-- as many come before its number as before the unit
abbrev pub AreKth : Units → Units → Type 0
AreKth units others = (u : ℕ) → u < units.count → before_unit others (kth_number units others u) ≡ before_unit units u

-- where no fewer of the others, of each type, stand at each station, these numbers are among them
pub record AreKthAmong (units others : Units) : Type 0 where
  pub among : AreAmong units others (kth_number units others)
  pub kth : AreKth units others

abbrev pub KthUnitsAreAmong : Type 0
KthUnitsAreAmong = (units others : Units)
    → ((s m : ℕ) → standing_at units s m ≤ standing_at others s m) → AreKthAmong units others

-- where as many do, they are a renumbering
pub record AreKthRenumbered (units others : Units) : Type 0 where
  pub renumbers : IsRenumbering units others (kth_number units others)
  pub kth : AreKth units others

abbrev pub KthUnitsAreRenumbered : Type 0
KthUnitsAreRenumbered = (units others : Units)
    → ((s m : ℕ) → standing_at units s m ≡ standing_at others s m) → AreKthRenumbered units others
