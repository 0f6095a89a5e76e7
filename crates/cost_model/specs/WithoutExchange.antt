-- What a day costs whose turns are without exchange and keep their rule over types. Such a turn does not both uncouple
-- and couple units, so that units are shunted at it exactly where its two lists differ in length.
use Rattle.std.specs.Prelude.{ℕ, ◌+◌, ◌≡◌, List, length, Bool, true, false, ◌==◌, if◌then◌else◌, option_map, unwrap_or}
use Rattle.std.specs.Prelude.{slice_get, Some, ⊤}
use Rattle.rules.specs.declared.records.Link.{Link}
use Rattle.rules.specs.declared.records.LinkKind.{LinkKind}
use Rattle.rules.specs.declared.records.LinkKind.TheVariants.{Turn, Join, Split}
use Rattle.timetable.specs.Cost.{trip_cost, cost_of}
use Rattle.timetable.specs.Day.{Day}
use Rattle.timetable.specs.Links.{list_of, itself, kind_holds}
use Rattle.timetable.specs.Lists.{sum_below}

-- a turn without exchange, whose rule holds over the types of its trips; or no turn
abbrev pub IsPlain : LinkKind → Bool → List (List ℕ) → Type 0
IsPlain (Turn a b uncouple couple exchange) r lists =
    (exchange ≡ false) × (kind_holds itself (Turn a b uncouple couple exchange) r lists ≡ true)
IsPlain (Join a1 a2 b) r lists = ⊤
IsPlain (Split a b1 b2) r lists = ⊤

-- a turn between lists of two lengths costs the weight of shunting
abbrev pub kind_cost_by_length : Day → LinkKind → List (List ℕ) → ℕ
kind_cost_by_length day (Turn a b uncouple couple exchange) lists =
    if length (list_of lists a) == length (list_of lists b) then 0 else day.weights.shunting
kind_cost_by_length day (Join a1 a2 b) lists = 0
kind_cost_by_length day (Split a b1 b2) lists = 0

unfoldable pub link_cost_by_length : Day → ℕ → List (List ℕ) → ℕ
link_cost_by_length day l lists =
    unwrap_or (option_map (λ link. kind_cost_by_length day link.kind lists) (slice_get day.links l)) 0

unfoldable pub cost_by_length : Day → List (List ℕ) → ℕ
cost_by_length day lists =
    sum_below (λ t. trip_cost day t (list_of lists t)) (length day.trips)
    + sum_below (λ l. link_cost_by_length day l lists) (length day.links)

-- where all turns are such, a day's cost is the one by lengths
abbrev pub CostsByLength : Type 0
CostsByLength =
    (day : Day) (lists : List (List ℕ))
    → ((l : ℕ) (link : Link) → slice_get day.links l ≡ Some link → IsPlain link.kind link.reverse lists)
    → cost_of day lists ≡ cost_by_length day lists
