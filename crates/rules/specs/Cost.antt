-- What a plan costs, which depends on the types of its lists alone; and what is said of all plans of a day: how little
-- one that runs may cost, or that none runs.
use Rattle.std.specs.Prelude.{ℕ, ◌+◌, ◌-◌, ◌*◌, List, map, length, Bool, false, not, ◌&&◌, ◌==◌, if◌then◌else◌}
use Rattle.std.specs.Prelude.{option_map, unwrap_or, slice_get, ℤ, pos, ◌≤ℤ◌}
use Rattle.rules.specs.declared.records.End.{End}
use Rattle.rules.specs.Composition.{carriages_of, seats_of, first_seats_of}
use Rattle.rules.specs.declared.records.LinkKind.{LinkKind}
use Rattle.rules.specs.declared.records.LinkKind.TheVariants.{Turn, Join, Split}
use Rattle.rules.specs.Day.{Day, Units, km_of, demand_of, first_demand_of, stock_units}
use Rattle.rules.specs.Links.{list_of, turned}
use Rattle.rules.specs.Lists.{sum_below}
use Rattle.rules.specs.Running.{RunsOf}
use Rattle.rules.specs.Turns.{kept_count}

-- the seats that are missing on a trip with this composition, of first and of second class: none of a class that has
-- enough, whatever the other class has to spare
unfoldable pub missing_seats : Day → ℕ → List ℕ → ℕ
missing_seats day t types =
    (first_demand_of day t - first_seats_of day.types types) + (demand_of day t - seats_of day.types types)

-- a trip with this composition: its carriages, and the seats that are missing, for its kilometres
unfoldable pub trip_cost : Day → ℕ → List ℕ → ℕ
trip_cost day t types =
    day.weights.carriage * carriages_of day.types types * km_of day t
    + day.weights.shortage * missing_seats day t types * km_of day t

-- whether a place of the arriving or of the departing list of a turn is outside the kept places; the arriving list is
-- the one after a reversal
abbrev pub is_shunted : End → End → List ℕ → List ℕ → Bool
is_shunted uncouple couple arriving departing =
    not ((kept_count uncouple couple arriving departing == length arriving)
    && (kept_count uncouple couple arriving departing == length departing))

-- the same of a link, by the types of the first train that arrives, after a reversal, and of the first that departs; no
-- join or split is shunted
abbrev pub shunts : LinkKind → List ℕ → List ℕ → Bool
shunts (Turn a b uncouple couple exchange) arriving departing = is_shunted uncouple couple arriving departing
shunts (Join a1 a2 b) arriving departing = false
shunts (Split a b1 b2) arriving departing = false

-- a turn that takes units off or puts units on costs the weight of shunting once
abbrev pub kind_cost : Day → LinkKind → Bool → List (List ℕ) → ℕ
kind_cost day (Turn a b uncouple couple exchange) r lists =
    if is_shunted uncouple couple (turned r (list_of lists a)) (list_of lists b) then day.weights.shunting else 0
kind_cost day (Join a1 a2 b) r lists = 0
kind_cost day (Split a b1 b2) r lists = 0

unfoldable pub link_cost : Day → ℕ → List (List ℕ) → ℕ
link_cost day l lists =
    unwrap_or (option_map (λ link. kind_cost day link.kind link.reverse lists) (slice_get day.links l)) 0

-- the cost of compositions, one for each trip, each the list of its types
unfoldable pub cost_of : Day → List (List ℕ) → ℕ
cost_of day lists =
    sum_below (λ t. trip_cost day t (list_of lists t)) (length day.trips)
    + sum_below (λ l. link_cost day l lists) (length day.links)

-- the cost of a plan of these units
abbrev pub plan_cost_of : Units → Day → List (List ℕ) → ℕ
plan_cost_of units day plan = cost_of day (map (map units.unit_type) plan)

-- the cost of a plan of the stock's units
abbrev pub plan_cost : Day → List (List ℕ) → ℕ
plan_cost day plan = plan_cost_of (stock_units day) day plan

-- every plan of these units that runs costs at least so much
abbrev pub PlansOfUnitsCostAtLeast : Units → Day → ℤ → Type 0
PlansOfUnitsCostAtLeast units day bound =
    (plan : List (List ℕ)) → RunsOf units day plan → bound ≤ℤ pos (plan_cost_of units day plan)

-- no plan of these units runs
abbrev pub NoPlanOfUnitsRuns : Units → Day → Type 0
NoPlanOfUnitsRuns units day = (plan : List (List ℕ)) → RunsOf units day plan → ⊥

-- the same of the stock's units
abbrev pub PlansCostAtLeast : Day → ℤ → Type 0
PlansCostAtLeast day bound = PlansOfUnitsCostAtLeast (stock_units day) day bound

abbrev pub NoPlanRuns : Day → Type 0
NoPlanRuns day = NoPlanOfUnitsRuns (stock_units day) day
