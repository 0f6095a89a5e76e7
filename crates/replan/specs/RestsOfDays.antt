-- What is searched for a plan that goes on from the past: the compositions that each trip may have, what others than
-- the planned ones cost, and the rule by which units are named from the minute on.
use Rattle.std.specs.Prelude.{ℕ, List, Bool, ◌&&◌, ◌||◌, not, map, nat_lt}
use Rattle.std.specs.List.{list_any, position_or_len, range_with_len}
use Rattle.branch_tree.specs.Sets.{set_of}
use Rattle.inventory.specs.NamedUnits.{named_from}
use Rattle.price_bound.specs.declared.changes.Change.{Change}
use Rattle.timetable.specs.Admissible.{is_admissible}
use Rattle.timetable.specs.Compositions.{compositions_of, composition_at}
use Rattle.timetable.specs.Day.{Day, arrives, leaves}
use Rattle.timetable.specs.DerivedDays.{old_number}
use Rattle.timetable.specs.Links.{trips_into}
use Rattle.timetable.specs.Lists.{listed}
use Rattle.timetable.specs.Picks.{picked}
use Rattle.timetable.specs.Turns.{same}
use Rattle.unit_duties.specs.LaterDays.{plan_for}
use Rattle.replan.specs.Disturbances.{Disturbed, later_day, planned_types, trips_later}

-- whether a trip is frozen at a minute
abbrev pub is_frozen : Day → ℕ → ℕ → Bool
is_frozen day minute t =
    nat_lt (leaves day t) minute || list_any (λ a. nat_lt (arrives day a) minute) (trips_into day t)

-- the number of the composition that was planned for a trip of the later day
unfoldable pub planned_comp : Disturbed → ℕ → ℕ
planned_comp disturbed t =
    position_or_len (λ types. same types (planned_types disturbed t)) (compositions_of (later_day disturbed))

-- a change for each trip of the later day: it costs to give the trip another composition than was planned
unfoldable pub changes_of : Disturbed → List Change
changes_of disturbed =
    listed (λ t. record { trip = t; base = planned_comp disturbed t; cost = disturbed.change }) (trips_later disturbed)

-- whether a trip of the later day may have a composition: an admissible one, and where it is frozen only the planned
-- one
abbrev pub may_have : Disturbed → ℕ → ℕ → Bool
may_have disturbed t comp =
    is_admissible (later_day disturbed) t (composition_at (later_day disturbed) comp)
    && (not (is_frozen (later_day disturbed) disturbed.minute t)
    || same (composition_at (later_day disturbed) comp) (planned_types disturbed t))

-- the root region: the compositions that each trip may have
unfoldable pub past_root : Disturbed → List (List Bool)
past_root disturbed = map (λ t. set_of (may_have disturbed t)) (range_with_len 0 (trips_later disturbed))

-- the plan as one of the later day
abbrev pub plan_later : Disturbed → List (List ℕ)
plan_later disturbed =
    plan_for (later_day disturbed) (old_number disturbed.day disturbed.cancelled) disturbed.plan

-- ---- the rule of naming

-- a day, the minute from which its trips are named, and the plan whose units the trips before it keep
pub record NamedFrom : Type 0 where
  pub day : Day
  pub minute : ℕ
  pub earlier : List (List ℕ)

abbrev pub named_by : NamedFrom → List ℕ → List (List ℕ)
named_by rule picks = named_from rule.day (picked rule.day picks) rule.minute rule.earlier

-- that of a disturbed day: on the later day, trips that leave before the minute keep the units that were planned, and
-- the others are named as they leave
abbrev pub rule_of : Disturbed → NamedFrom
rule_of disturbed =
    record { day = later_day disturbed; minute = disturbed.minute; earlier = plan_later disturbed }

abbrev pub named_on : Disturbed → List ℕ → List (List ℕ)
named_on disturbed = named_by (rule_of disturbed)
