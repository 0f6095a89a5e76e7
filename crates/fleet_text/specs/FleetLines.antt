-- The document of a fleet, line by line.
use Rattle.std.specs.Prelude.{ℕ, zero, suc, List, [], ◌∷◌, ◌++◌, ◌/◌, ◌%◌, codes, Option, Some, None}
use Rattle.std.specs.Fmt.{decimal, signed_decimal}
use Rattle.rail_base.specs.declared.numbers.Money.{Money}
use Rattle.branch_tree.specs.declared.tree.Node.{Node}
use Rattle.rules.specs.declared.heads.Head.{Head}
use Rattle.rules.specs.declared.heads.Head.TheVariants.{Optimal, Infeasible, Bounded, BoundedPlan}
use Rattle.answer_text.specs.Lines.{spaced, text_of_lines}
use Rattle.answer_text.specs.Texts.{branchings_line, end_line, head_words, node_lines, run_lines, tree_line}
use Rattle.fleet_boxes.specs.declared.nodes.BoxNode.{BoxNode}
use Rattle.fleet_boxes.specs.declared.nodes.BoxNode.TheVariants.{Split, Bound, Nothing}
use Rattle.fleet_check.specs.declared.found.Chosen.{Chosen}
use Rattle.fleet_check.specs.declared.found.Fleet.{Fleet}

-- the lines of each entry of a list, by its number, from one on
abbrev pub lines_each : {X : Type 0} → (ℕ → X → List (List ℕ)) → ℕ → List X → List (List ℕ)
lines_each lines number [] = []
lines_each lines number (x ∷ xs) = lines number x ++ lines_each lines (suc number) xs

-- what is said of all fleets
abbrev pub said_line : Head → List ℕ
said_line head = spaced (codes "fleet" ∷ head_words head)

-- how many splits the boxes have
abbrev pub splits_line : ℕ → List ℕ
splits_line splits = spaced (codes "splits" ∷ decimal splits ∷ [])

-- the units of a place, where there are so many types: its station, its type, and how many units
abbrev pub stock_line : ℕ → ℕ → ℕ → List ℕ
stock_line types place units =
    spaced (codes "stock" ∷ decimal (place / types) ∷ decimal (place % types) ∷ decimal units ∷ [])

abbrev pub stock_lines : ℕ → List ℕ → List (List ℕ)
stock_lines types stock = lines_each (λ place units. stock_line types place units ∷ []) 0 stock

-- those of a day of so many types; one without types has no places
abbrev pub places_told : ℕ → List ℕ → List (List ℕ)
places_told zero stock = []
places_told (suc more) stock = stock_lines (suc more) stock

-- a chosen stock and the runs of its plan
abbrev pub plan_lines : ℕ → Chosen → List (List ℕ)
plan_lines types chosen = places_told types chosen.stock ++ run_lines 0 chosen.plan

abbrev pub chosen_lines : ℕ → Option Chosen → List (List ℕ)
chosen_lines types None = []
chosen_lines types (Some chosen) = plan_lines types chosen

-- a tree, and how many branchings it has
abbrev pub node_lines_of : ℕ → List Node → List (List ℕ)
node_lines_of branchings tree = branchings_line branchings ∷ tree_line ∷ node_lines tree

abbrev pub split_line : ℕ → ℕ → ℕ → List ℕ
split_line station unit_type at =
    spaced (codes "split" ∷ decimal station ∷ decimal unit_type ∷ decimal at ∷ [])

abbrev pub bound_line : Money → List ℕ
bound_line bound = spaced (codes "bound" ∷ signed_decimal bound.0 ∷ [])

abbrev pub nothing_line : List ℕ
nothing_line = codes "nothing"

-- a node of the boxes
abbrev pub box_lines : BoxNode → List (List ℕ)
box_lines (Split station unit_type at) = split_line station unit_type at ∷ []
box_lines (Bound bound branchings tree) =
    bound_line bound ∷ node_lines_of branchings tree
box_lines (Nothing branchings tree) = nothing_line ∷ node_lines_of branchings tree

abbrev pub lines_of_boxes : List BoxNode → List (List ℕ)
lines_of_boxes boxes = lines_each (λ number node. box_lines node) 0 boxes

-- the boxes are told where the head is `bounded`
abbrev pub boxes_told : Head → List BoxNode → List (List ℕ)
boxes_told (Optimal price) boxes = []
boxes_told Infeasible boxes = []
boxes_told (Bounded bound) boxes = lines_of_boxes boxes
boxes_told (BoundedPlan bound price) boxes = lines_of_boxes boxes

-- all lines
abbrev pub lines_of : ℕ → Fleet → List (List ℕ)
lines_of types fleet =
    said_line fleet.head ∷ splits_line fleet.splits
    ∷ (chosen_lines types fleet.chosen ++ (boxes_told fleet.head fleet.boxes ++ end_line ∷ []))

-- the document
abbrev pub fleet_text : ℕ → Fleet → List ℕ
fleet_text types fleet = text_of_lines (lines_of types fleet)
