-- When what was said of all fleets of a day is valid, and what is the first thing that is wrong with it.
use Rattle.std.specs.Prelude.{ℕ, suc, ◌≡◌, ◌≢◌, ◌↔◌, ◌+◌, ◌<◌, ◌≤◌, ◌⊎◌, List, [], ◌∷◌, ◌++◌, length, take, ℤ, pos}
use Rattle.std.specs.Prelude.{Option, Some, None}
use Rattle.rail_base.specs.declared.numbers.Money.{Money}
use Rattle.timetable.specs.Day.{Day}
use Rattle.rules.specs.declared.heads.Head.{Head}
use Rattle.rules.specs.declared.heads.Head.TheVariants.{Optimal, Infeasible, Bounded, BoundedPlan}
use Rattle.fleet_boxes.specs.declared.boxes.FleetBox.{FleetBox}
use Rattle.fleet_boxes.specs.declared.nodes.BoxNode.{BoxNode}
use Rattle.fleet_boxes.specs.declared.nodes.BoxNode.TheVariants.{Split, Bound, Nothing}
use Rattle.fleet_boxes.specs.Boxes.{box_of}
use Rattle.fleet_boxes.specs.ProvedBoxes.{AreProved, AreTrees, IsProvedAt, boxes_below, price_of, values_of}
use Rattle.fleet_check.specs.declared.found.Chosen.{Chosen}
use Rattle.fleet_check.specs.declared.found.Fleet.{Fleet}
use Rattle.fleet_check.specs.declared.verdict.FleetVerdict.{FleetVerdict}
use Rattle.fleet_check.specs.declared.verdict.FleetVerdict.TheVariants.{Valid, TreeShape, SplitOutside, LeafFails}
use Rattle.fleet_check.specs.declared.verdict.FleetVerdict.TheVariants.{SplitsDiffer, PlanFails, PriceDiffers}
use Rattle.fleet_check.specs.declared.verdict.FleetVerdict.TheVariants.{HeadFails}
use Rattle.fleet_check.specs.Chosen.{DoesRun, RunsAtPrice}
use Rattle.fleet_check.specs.Heads.{DoesFollow}
use Rattle.fleet_check.specs.Tests.{Test, FirstFails}

-- how many splits boxes have
abbrev pub splits_in : List BoxNode → ℕ
splits_in [] = 0
splits_in (Split station unit_type at ∷ nodes) = 1 + splits_in nodes
splits_in (Bound bound branchings tree ∷ nodes) = splits_in nodes
splits_in (Nothing branchings tree ∷ nodes) = splits_in nodes

-- the price that a head says of its plan
abbrev pub price_said : Head → Option ℤ
price_said (Optimal cost) = Some cost.0
price_said Infeasible = None
price_said (Bounded bound) = None
price_said (BoundedPlan bound cost) = Some cost.0

-- a chosen plan is there exactly where a price is said, and then runs with its fleet at this price
abbrev pub HasPlanSaid : Day → List ℕ → Option Chosen → Option ℤ → Type 0
HasPlanSaid day prices chosen (Some price) = RunsAtPrice day prices chosen price
HasPlanSaid day prices chosen None = chosen ≡ None

-- Valid: the boxes are proved, the splits are as many as are said, a chosen plan is there exactly where the head has
-- one, and then runs with its fleet at the price said, and what the head says follows from the leaves.
pub record IsValid (day : Day) (prices : List ℕ) (fleet : Fleet) : Type 0 where
  pub proved : AreProved day fleet.boxes
  pub splits : fleet.splits ≡ splits_in fleet.boxes
  pub chosen : HasPlanSaid day prices fleet.chosen (price_said fleet.head)
  pub head : DoesFollow (values_of day prices fleet.boxes) fleet.head

-- ---- the tests in their order: each says for which verdict it is failed

-- the nodes are one whole tree, whatever box it is over
abbrev pub IsWhole : List BoxNode → Type 0
IsWhole nodes = AreTrees (λ box node. Unit {0}) 0 (record { least = []; greatest = [] } ∷ []) nodes

-- the node is there, and those before it are a whole tree
abbrev pub IsAfterTree : List BoxNode → ℕ → Type 0
IsAfterTree nodes node = (node < length nodes) × IsWhole (take node nodes)

-- no first nodes are a whole tree, and the node is the number of all
abbrev pub LacksNodes : List BoxNode → ℕ → Type 0
LacksNodes nodes node = (node ≡ length nodes) × ((count : ℕ) → count ≤ length nodes → ¬ IsWhole (take count nodes))

-- the nodes are not one whole tree: a node comes after one, or there are too few
abbrev pub IsMisshapen : List BoxNode → Test
IsMisshapen nodes verdict =
    (node : ℕ) × (verdict ≡ TreeShape node) × (IsAfterTree nodes node ⊎ LacksNodes nodes node)

-- the verdict where a node is not proved in its box: a split does not part it, or a tree does not prove what its leaf
-- says
abbrev pub failure_at : ℕ → BoxNode → FleetVerdict
failure_at number (Split station unit_type at) = SplitOutside number
failure_at number (Bound bound branchings tree) = LeafFails number
failure_at number (Nothing branchings tree) = LeafFails number

abbrev pub FailsAt : Day → ℕ → FleetBox → BoxNode → Test
FailsAt day number box node verdict = (verdict ≡ failure_at number node) × (¬ IsProvedAt day box node)

-- the tests of nodes in the boxes of trees, which have rising numbers from one on
abbrev pub tests_from : Day → ℕ → List FleetBox → List BoxNode → List Test
tests_from day number boxes [] = []
tests_from day number [] (node ∷ nodes) = []
tests_from day number (box ∷ boxes) (node ∷ nodes) =
    FailsAt day number box node
    ∷ tests_from day (suc number) (boxes_below (length day.types) box node ++ boxes) nodes

-- another number of splits is said than there are
abbrev pub DoSplitsDiffer : ℕ → List BoxNode → Test
DoSplitsDiffer said nodes verdict = (verdict ≡ SplitsDiffer said (splits_in nodes)) × (said ≢ splits_in nodes)

-- one of a price that is said and a chosen plan is there without the other, or the plan does not run with its fleet
abbrev pub DoesPlanFail : Day → Option Chosen → Option ℤ → Test
DoesPlanFail day None None verdict = ⊥
DoesPlanFail day None (Some price) verdict = verdict ≡ PlanFails
DoesPlanFail day (Some chosen) None verdict = verdict ≡ PlanFails
DoesPlanFail day (Some chosen) (Some price) verdict = (verdict ≡ PlanFails) × (¬ DoesRun day chosen)

-- what a chosen plan costs with the units of its fleet, as money
abbrev pub price_found : Day → List ℕ → Chosen → Money
price_found day prices chosen = record { 0 = pos (price_of day prices chosen.stock chosen.plan) }

-- it costs something else than is said
abbrev pub CostsOther : Day → List ℕ → Option Chosen → Option ℤ → Test
CostsOther day prices None said verdict = ⊥
CostsOther day prices (Some chosen) None verdict = ⊥
CostsOther day prices (Some chosen) (Some price) verdict =
    (verdict ≡ PriceDiffers (record { 0 = price }) (price_found day prices chosen))
    × (price ≢ pos (price_of day prices chosen.stock chosen.plan))

abbrev pub plan_tests : Day → List ℕ → Option Chosen → Option ℤ → List Test
plan_tests day prices chosen said = DoesPlanFail day chosen said ∷ CostsOther day prices chosen said ∷ []

-- what a head says does not follow from the values of the leaves
abbrev pub DoesHeadFail : List ℤ → Head → Test
DoesHeadFail values head verdict = (verdict ≡ HeadFails) × (¬ DoesFollow values head)

-- the tests in their order: of the list of nodes, of each node in preorder, of the number of splits, of the chosen
-- plan, and of what is said of all fleets
abbrev pub fleet_tests : Day → List ℕ → Fleet → List Test
fleet_tests day prices fleet =
    (IsMisshapen fleet.boxes ∷ []) ++
    (tests_from day 0 (box_of day ∷ []) fleet.boxes ++
    ((DoSplitsDiffer fleet.splits fleet.boxes ∷ []) ++
    (plan_tests day prices fleet.chosen (price_said fleet.head) ++
    (DoesHeadFail (values_of day prices fleet.boxes) fleet.head ∷ []))))

-- The verdict on what was said: valid exactly where it is so, and else that of the first test that is failed.
pub record IsVerdict (day : Day) (prices : List ℕ) (fleet : Fleet) (verdict : FleetVerdict) : Type 0 where
  pub valid : (verdict ≡ Valid) ↔ IsValid day prices fleet
  pub first : verdict ≢ Valid → FirstFails (fleet_tests day prices fleet) verdict
