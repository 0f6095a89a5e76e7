-- What an answer and a plan come to where other units run it, where a fleet is larger, on the next day, and where a day
-- is planned again from a minute on. Each follows from the laws on which it is built.
use Rattle.std.specs.Prelude.{ℕ, ◌+◌, ◌≡◌, ◌<◌, ◌≤◌, List, length, IsTrue, true}
use Rattle.std.specs.List.{sum_by}
use Rattle.rules.specs.declared.records.Link.{Link}
use Rattle.rules.specs.declared.records.Stock.{Stock}
use Rattle.timetable.specs.Accepted.{IsSoundDay, IsStocked, AreUnitsOf}
use Rattle.timetable.specs.Day.{Day, Units, type_of, types_of, stock_units, wanted_of}
use Rattle.timetable.specs.DerivedDays.{old_number, with_stock, without_trips}
use Rattle.timetable.specs.LinkCounts.{times_kept}
use Rattle.timetable.specs.Links.{list_of, link_holds, departing_in, arriving_in, given, given_by, kept_with}
use Rattle.timetable.specs.Lists.{count_of, has, sum_below}
use Rattle.timetable.specs.Renumbering.{kth_number, renumbered, standing_at}
use Rattle.timetable.specs.Running.{Runs, ending_of}
use Rattle.timetable.specs.Starts.{start_of}
use Rattle.inventory.specs.Counts.{AreServed}
use Rattle.inventory.specs.NamedBefore.{IsFrozen, IsNamedBefore}
use Rattle.inventory.specs.NamedUnits.{named_from, named_plan}
use Rattle.inventory.specs.NamingLaws.{RunsOn, RunsWithUnits}
use Rattle.inventory.specs.ServingLaws.{IsServed, units_after}
use Rattle.unit_duties.specs.LaterDays.{AgreeOnFrozen, IsPastSpared, plan_for}
use Rattle.answer_text.specs.declared.answer.Answer.{Answer}
use Rattle.answer_check.specs.Headline.{IsHeadline, IsTrueOfUnits}

-- ---- other units, and more of them

-- the plan with the number of the k-th of some units, of a type at a station, for the k-th of the stock
abbrev pub plan_with : Day → Units → List (List ℕ) → List (List ℕ)
plan_with day units plan = renumbered (kth_number (stock_units day) units) plan

-- What the answer to a day says is true of any units of which as many, of each type, stand at each station.
abbrev pub AnswersHoldOfUnits : Type 0
AnswersHoldOfUnits = (day : Day) (units : Units) (grant : ℕ) (answer : Answer)
    → ((s m : ℕ) → standing_at (stock_units day) s m ≡ standing_at units s m) → IsHeadline day grant answer
    → IsTrueOfUnits units day answer.head (plan_with day units answer.runs)

-- these stock rows say more units, and as many more are wanted at the end where they stand
pub record IsLargerFleet (day : Day) (rows : List Stock) : Type 0 where
  pub more : (s m : ℕ) → standing_at (stock_units day) s m ≤ standing_at (stock_units (with_stock rows day)) s m
  pub wanted : (s m : ℕ) → s < length day.stations → m < length day.types
      → wanted_of (with_stock rows day) s m + standing_at (stock_units day) s m
      ≡ wanted_of day s m + standing_at (stock_units (with_stock rows day)) s m

-- A plan that runs in a day runs with such a larger fleet.
abbrev pub PlansRunInLargerFleets : Type 0
PlansRunInLargerFleets = (day : Day) (rows : List Stock) (plan : List (List ℕ)) → IsLargerFleet day rows
    → Runs day plan → Runs (with_stock rows day) (plan_with day (stock_units (with_stock rows day)) plan)

-- ---- the next day

-- the next day has the same timetable, and its stock rows say of each type at each station as many units as end the day
-- there in a plan of some units
pub record IsNextDay (units : Units) (day : Day) (plan : List (List ℕ)) (rows : List Stock) : Type 0 where
  pub sound : IsSoundDay day
  pub are_units : AreUnitsOf units day
  pub next_units : AreUnitsOf (stock_units (with_stock rows day)) (with_stock rows day)
  pub stocked : IsStocked (with_stock rows day)
  pub starts : (s m : ℕ) → s < length day.stations → m < length day.types
      → ending_of units day plan s m ≡ start_of (with_stock rows day) s m

-- On the next day the units run any compositions that the yards serve, named by the rule; and the yards serve those of
-- every plan that runs with them.
pub record GoesOn (units : Units) (day : Day) (plan : List (List ℕ)) (rows : List Stock) : Type 0 where
  pub named : (types : List (List ℕ)) → AreServed (with_stock rows day) types
      → RunsWithUnits (units_after units day plan) (with_stock rows day) types
      (plan_with (with_stock rows day) (units_after units day plan) (named_plan (with_stock rows day) types))
  pub served : (next : List (List ℕ)) → IsServed (units_after units day plan) (with_stock rows day) next

abbrev pub WeeksGoOn : Type 0
WeeksGoOn = (units : Units) (day : Day) (plan : List (List ℕ)) (rows : List Stock) → IsNextDay units day plan rows
    → GoesOn units day plan rows

-- ---- planned again from a minute on

-- Of a plan that runs, the trips that leave before a minute keep their units, and the others are named for any
-- compositions that the yards serve, the plan's on each frozen trip.
abbrev pub PlansAreNamedAgain : Type 0
PlansAreNamedAgain = (day : Day) (minute : ℕ) (plan types : List (List ℕ)) → IsSoundDay day
    → ((t : ℕ) → t < length day.trips → IsFrozen day minute t → list_of types t ≡ types_of day (list_of plan t))
    → Runs day plan → AreServed day types → RunsOn day types minute plan (named_from day types minute plan)

-- The same of trips that are named as it is asked, of which no plan is known that runs.
abbrev pub PastsAreTakenUp : Type 0
PastsAreTakenUp = (day : Day) (minute : ℕ) (plan some types : List (List ℕ)) → IsSoundDay day
    → ((t : ℕ) → t < length day.trips → IsFrozen day minute t → list_of types t ≡ list_of some t)
    → IsNamedBefore day some minute plan → AreServed day types
    → RunsOn day types minute plan (named_from day types minute plan)

-- a plan of a day, as it is without some trips
abbrev pub plan_without : Day → List ℕ → List (List ℕ) → List (List ℕ)
plan_without day gone plan = plan_for (without_trips gone day) (old_number day gone) plan

-- The same in the day without some trips, where the past is spared.
abbrev pub PlansAreNamedWithout : Type 0
PlansAreNamedWithout = (day : Day) (gone : List ℕ) (minute : ℕ) (plan types : List (List ℕ)) → IsSoundDay day
    → IsSoundDay (without_trips gone day) → IsPastSpared day gone minute
    → AgreeOnFrozen day (without_trips gone day) (old_number day gone) minute plan types → Runs day plan
    → AreServed (without_trips gone day) types
    → RunsOn (without_trips gone day) types minute (plan_without day gone plan)
    (named_from (without_trips gone day) types minute (plan_without day gone plan))

-- ---- where a unit goes on

-- A unit that arrives for a link whose rule holds, and is not given, stays for a departing trip.
abbrev pub UnitsStayAtLinks : Type 0
UnitsStayAtLinks = (unit_type : ℕ → ℕ) (link : Link) (lists : List (List ℕ)) (u a : ℕ)
    → link_holds unit_type link lists ≡ true → IsTrue (has a (arriving_in link.kind)) → 1 ≤ count_of u (list_of lists a)
    → count_of u (given_by unit_type link.kind link.reverse lists) ≡ 0
    → 1 ≤ sum_by (λ b. times_kept unit_type link lists u a b) (departing_in link.kind)

-- In a plan that runs a unit of a trip that is not given stays for a trip of the day.
abbrev pub UnitsStayInTrains : Type 0
UnitsStayInTrains = (day : Day) (plan : List (List ℕ)) (t u : ℕ) → IsSoundDay day → Runs day plan
    → 1 ≤ count_of u (list_of plan t) → count_of u (given day plan t) ≡ 0
    → 1 ≤ sum_below (λ b. count_of u (kept_with (type_of day) day plan t b)) (length day.trips)
