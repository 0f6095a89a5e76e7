-- The stages of a chain of a day: for each of its trips, what the compositions of a region cost on it under prices, and
-- the edges of the link that leads on from it.
use Rattle.std.specs.Prelude.{ℕ, ◌≡◌, List, [], ◌∷◌, map, length, slice_get, ℤ, pos, ◌+ℤ◌}
use Rattle.std.specs.Prelude.{true, Bool, ◌&&◌, if◌then◌else◌, nat_lt, Option, Some, None, unwrap_or}
use Rattle.rules.specs.declared.records.Link.{Link}
use Rattle.timetable.specs.Admissible.{is_admissible}
use Rattle.timetable.specs.Compositions.{compositions_of, composition_at}
use Rattle.timetable.specs.Day.{Day}
use Rattle.timetable.specs.Handovers.{second_of}
use Rattle.timetable.specs.Links.{outgoing}
use Rattle.transitions.specs.declared.edge.Edge.{Edge}
use Rattle.branch_tree.specs.declared.multipliers.Entry.{Entry}
use Rattle.branch_tree.specs.declared.relaxation.Weight.{Weight}
use Rattle.branch_tree.specs.Regions.{has}
use Rattle.price_bound.specs.declared.changes.Change.{Change}
use Rattle.price_bound.specs.Changes.{changed_cost}
use Rattle.price_bound.specs.EdgeValues.{edge_value}
use Rattle.price_bound.specs.FollowingPicks.{pick_of}
use Rattle.price_bound.specs.Paths.{Stage, IsFirstPath}
use Rattle.price_bound.specs.Regrouped.{trip_value}

-- what is priced: a day and its edges, under changes; the multipliers and their weight; and the region
pub record Priced : Type 0 where
  pub day : Day
  pub graphs : List (List Edge)
  pub changes : List Change
  pub entries : List Entry
  pub weight : Weight
  pub region : List (List Bool)

-- what a trip costs with a composition
abbrev pub cost_on : Priced → ℕ → ℕ → ℕ
cost_on priced = changed_cost priced.day priced.changes

-- a trip may have a composition that may run on it and is in the region
abbrev pub may_have : Day → List (List Bool) → ℕ → ℕ → Bool
may_have day region t comp =
    has region t comp && (nat_lt comp (length (compositions_of day)) && is_admissible day t (composition_at day comp))

abbrev pub priced_cost_of : Priced → ℕ → ℕ → Option ℤ
priced_cost_of priced t comp =
    if may_have priced.day priced.region t comp
    then Some (trip_value priced.day (cost_on priced) priced.entries priced.weight t comp) else None

-- a part is in the region's set of the second trip, where a link has one
abbrev pub part_is_in : List (List Bool) → Option ℕ → Option ℕ → Bool
part_is_in region None part = true
part_is_in region (Some t) None = true
part_is_in region (Some t) (Some part) = has region t part

abbrev pub price_by_link : Priced → ℕ → Option Link → Edge → Option ℤ
price_by_link priced l None edge = None
price_by_link priced l (Some link) edge =
    if part_is_in priced.region (second_of link.kind) edge.part
    then Some (edge_value priced.day priced.entries priced.weight l link.kind edge) else None

-- the edges of a link, if there is one, and what each is priced
abbrev pub edges_of : Priced → Option ℕ → List Edge
edges_of priced None = []
edges_of priced (Some l) = unwrap_or (slice_get priced.graphs l) []

abbrev pub price_of : Priced → Option ℕ → Edge → Option ℤ
price_of priced None edge = None
price_of priced (Some l) edge = price_by_link priced l (slice_get priced.day.links l) edge

abbrev pub stage_of : Priced → ℕ → Stage
stage_of priced t = record {
  priced_cost = priced_cost_of priced t;
  edges = edges_of priced (outgoing priced.day t);
  price = price_of priced (outgoing priced.day t);
}

abbrev pub stages_of : Priced → List ℕ → List Stage
stages_of priced chain = map (stage_of priced) chain

-- ---- picks along chains

abbrev pub along : List ℕ → List ℕ → List ℕ
along picks chain = map (pick_of picks) chain

-- along each chain the picks are the first path of least value
abbrev pub AreFirstPaths : Priced → List (List ℕ) → List ℕ → ℤ → Type 0
AreFirstPaths priced [] picks value = value ≡ pos 0
AreFirstPaths priced (chain ∷ chains) picks value =
    (here rest : ℤ) × IsFirstPath (stages_of priced chain) (along picks chain) here
    × AreFirstPaths priced chains picks rest
    × (value ≡ here +ℤ rest)
