-- Units that run one another's duties, and the duties of units that get the numbers of others.
use Rattle.std.specs.Prelude.{ℕ, ◌≡◌, ◌≢◌, ◌<◌, List, ◌==◌, if◌then◌else◌}
use Rattle.timetable.specs.Cost.{plan_cost_of}
use Rattle.timetable.specs.Day.{Day, Units}
use Rattle.timetable.specs.Duties.{duty}
use Rattle.timetable.specs.Renumbering.{IsRenumbering, renumbered}
use Rattle.timetable.specs.Running.{IsPlanOfUnits, RunsOf}

-- ---- two units

-- each of two numbers for the other, and any other as it is
abbrev pub swapped : ℕ → ℕ → ℕ → ℕ
swapped u v w = if w == u then v else if w == v then u else w

-- the plan in which each of two units runs where the other did
abbrev pub plan_swapped : ℕ → ℕ → List (List ℕ) → List (List ℕ)
plan_swapped u v plan = renumbered (swapped u v) plan

-- it runs and costs the same, each of the two has the other's duty, and every other unit has its own
pub record AreSwapped (units : Units) (day : Day) (plan : List (List ℕ)) (u v : ℕ) : Type 0 where
  pub runs : RunsOf units day (plan_swapped u v plan)
  pub cost : plan_cost_of units day (plan_swapped u v plan) ≡ plan_cost_of units day plan
  pub first : duty day (plan_swapped u v plan) u ≡ duty day plan v
  pub second : duty day (plan_swapped u v plan) v ≡ duty day plan u
  pub others : (w : ℕ) → w < units.count → w ≢ u → w ≢ v → duty day (plan_swapped u v plan) w ≡ duty day plan w

-- Two units of one type that stand at one station at the start of the day may run each other's duties.
abbrev pub UnitsMaySwap : Type 0
UnitsMaySwap = (units : Units) (day : Day) (plan : List (List ℕ)) (u v : ℕ) → u < units.count → v < units.count
    → units.unit_type u ≡ units.unit_type v → units.home u ≡ units.home v → RunsOf units day plan
    → AreSwapped units day plan u v

-- ---- other numbers

-- a unit has the duty that one of other units had, of its type and at its station
pub record HasDutyOf (units others : Units) (day : Day) (before after : List (List ℕ)) (v : ℕ) : Type 0 where
  pub unit : ℕ
  pub known : unit < units.count
  pub unit_type : units.unit_type unit ≡ others.unit_type v
  pub home : units.home unit ≡ others.home v
  pub same : duty day after v ≡ duty day before unit

-- Where units get the numbers of others, one to one, none of the others has a duty that no unit had.
abbrev pub NoDutyIsNew : Type 0
NoDutyIsNew = (units others : Units) (number : ℕ → ℕ) (day : Day) (plan : List (List ℕ)) (v : ℕ)
    → IsRenumbering units others number → IsPlanOfUnits units day plan → v < others.count
    → HasDutyOf units others day plan (renumbered number plan) v
