-- A day that is disturbed at a minute: some of its trips are cancelled, and the rest of it is planned anew. What has
-- happened stays, and what is changed beyond that has a price.
use Rattle.std.specs.Prelude.{ℕ, ◌≡◌, ◌+◌, ◌*◌, ◌<◌, ◌≤◌, List, length, Bool, not, ℤ, pos, ◌≤ℤ◌}
use Rattle.rail_base.specs.declared.limits.TheConstants.{MAX_CHANGE}
use Rattle.timetable.specs.Cost.{plan_cost}
use Rattle.timetable.specs.Day.{Day, leaves, types_of}
use Rattle.timetable.specs.DerivedDays.{old_number, without_trips}
use Rattle.timetable.specs.Links.{list_of}
use Rattle.timetable.specs.Lists.{count_below}
use Rattle.timetable.specs.Running.{IsPlan, Runs}
use Rattle.timetable.specs.Turns.{same}
use Rattle.inventory.specs.NamedBefore.{IsFrozen}
use Rattle.cancellations.specs.Cancellations.{AreCancellable}

-- ---- the disturbed day

-- a day and the plan that was made of it, the minute at which it is disturbed, the trips that are cancelled then, and
-- what it costs to give a trip other types of units than were planned
pub record Disturbed : Type 0 where
  pub day : Day
  pub plan : List (List ℕ)
  pub minute : ℕ
  pub cancelled : List ℕ
  pub change : ℕ

abbrev pub disturbed_by : Day → List (List ℕ) → ℕ → List ℕ → ℕ → Disturbed
disturbed_by day plan minute cancelled change =
    record { day = day; plan = plan; minute = minute; cancelled = cancelled; change = change }

-- the later day: the day without the cancelled trips, and without the links that name one of them
abbrev pub later_day : Disturbed → Day
later_day disturbed = without_trips disturbed.cancelled disturbed.day

-- how many trips it has
abbrev pub trips_later : Disturbed → ℕ
trips_later disturbed = length (later_day disturbed).trips

-- the units that were planned for a trip of the later day, and their types
abbrev pub planned : Disturbed → ℕ → List ℕ
planned disturbed t = list_of disturbed.plan (old_number disturbed.day disturbed.cancelled t)

abbrev pub planned_types : Disturbed → ℕ → List ℕ
planned_types disturbed t = types_of disturbed.day (planned disturbed t)

-- ---- plans of the later day

-- A plan of the later day agrees with the past: each trip that leaves before the minute has the units that were
-- planned, and each frozen one their types. A trip is frozen that leaves before the minute, or to which a link of the
-- later day leads from a trip that arrives before it.
pub record AgreesWithPast (disturbed : Disturbed) (plan : List (List ℕ)) : Type 0 where
  pub units : (t : ℕ) → t < trips_later disturbed → leaves (later_day disturbed) t < disturbed.minute
      → list_of plan t ≡ planned disturbed t
  pub types : (t : ℕ) → t < trips_later disturbed → IsFrozen (later_day disturbed) disturbed.minute t
      → types_of (later_day disturbed) (list_of plan t) ≡ planned_types disturbed t

-- it goes on from the past: it agrees with it, and runs in the later day
pub record GoesOn (disturbed : Disturbed) (plan : List (List ℕ)) : Type 0 where
  pub runs : Runs (later_day disturbed) plan
  pub agrees : AgreesWithPast disturbed plan

-- whether it gives a trip other types than were planned, and to how many trips it does
abbrev pub is_changed : Disturbed → List (List ℕ) → ℕ → Bool
is_changed disturbed plan t =
    not (same (types_of (later_day disturbed) (list_of plan t)) (planned_types disturbed t))

abbrev pub changes_in : Disturbed → List (List ℕ) → ℕ
changes_in disturbed plan = count_below (is_changed disturbed plan) (trips_later disturbed)

-- its price: what it costs in the later day, and the cost of a change for each of these trips
abbrev pub price_of : Disturbed → List (List ℕ) → ℕ
price_of disturbed plan = plan_cost (later_day disturbed) plan + disturbed.change * changes_in disturbed plan

-- every plan that goes on from the past has at least this price
abbrev pub PricesAreAtLeast : Disturbed → ℤ → Type 0
PricesAreAtLeast disturbed bound =
    (plan : List (List ℕ)) → GoesOn disturbed plan → bound ≤ℤ pos (price_of disturbed plan)

-- no plan goes on from the past
abbrev pub NoneGoesOn : Disturbed → Type 0
NoneGoesOn disturbed = (plan : List (List ℕ)) → GoesOn disturbed plan → ⊥

-- ---- what calls are given of it

-- the plan is one of the day, the trips may be cancelled at the minute, and the cost of a change is within its limit
pub record IsDisturbance (disturbed : Disturbed) : Type 0 where
  pub is_plan : IsPlan disturbed.day disturbed.plan
  pub cancellable : AreCancellable disturbed.day disturbed.minute disturbed.cancelled
  pub change_few : disturbed.change ≤ MAX_CHANGE
