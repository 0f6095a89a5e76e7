-- How many fleets boxes have: a split parts them, so a tree with one split less than fleets has leaves of one fleet each.
use Rattle.std.proofs.Common.{◌≡◌, ◌∙◌, ℕ, zero, suc, ◌+◌, ◌*◌, ◌-◌, ◌<◌, ◌≤◌, List, [], ◌∷◌, ◌++◌, length, All, refl, ap, arith}
use Rattle.std.specs.Prelude.{slice_index, set, replicate}
use Rattle.std.proofs.Math.Nat.{mul-le-mul_left, mul-le-mul_right}
use Rattle.std.proofs.lemmas.List.Elements.{All-cons, All-nil}
use Rattle.fleets.specs.Fleets.{IsNowhereAbove}
use Rattle.fleet_boxes.specs.declared.boxes.FleetBox.{FleetBox}
use Rattle.fleet_boxes.specs.declared.nodes.BoxNode.{BoxNode}
use Rattle.fleet_boxes.specs.declared.nodes.BoxNode.TheVariants.{Split, Bound, Nothing}
use Rattle.fleet_boxes.specs.Boxes.{IsParted, lower_part, upper_part}
use Rattle.fleet_boxes.specs.ProvedBoxes.{AreTrees, boxes_below}
use Rattle.fleet_check.specs.Verdicts.{splits_in}
use Rattle.fleet_size.specs.Found.{bound_leaves, fleets_below}

-- how many fleets are between two
abbrev pub fleets_from : List ℕ → List ℕ → ℕ
fleets_from [] most = 1
fleets_from (a ∷ least) [] = 1
fleets_from (a ∷ least) (b ∷ most) = ((b + 1) - a) * fleets_from least most

pub some_fleets : (least most : List ℕ) → IsNowhereAbove least most → 1 ≤ fleets_from least most
some_fleets [] most below = omega arith
some_fleets (a ∷ least) [] below = omega arith
some_fleets (a ∷ least) (b ∷ most) below =
    let rest : 1 ≤ fleets_from least most = some_fleets least most below.1 in
    let width : 1 ≤ (b + 1) - a = omega (arith, below.0) in
    let one : 1 * fleets_from least most ≤ ((b + 1) - a) * fleets_from least most = mul-le-mul_right (fleets_from least most) width in
    omega (arith, rest, one)

-- one fleet alone
pub one_fleet : (least most : List ℕ) → IsNowhereAbove least most → fleets_from least most ≤ 1 → least ≡ most
one_fleet [] [] below one = refl
one_fleet [] (b ∷ most) below one = absurd below
one_fleet (a ∷ least) [] below one = absurd below
one_fleet (a ∷ least) (b ∷ most) below one =
    let rest : 1 ≤ fleets_from least most = some_fleets least most below.1 in
    let width : 1 ≤ (b + 1) - a = omega (arith, below.0) in
    let wide : ((b + 1) - a) * 1 ≤ ((b + 1) - a) * fleets_from least most = mul-le-mul_left ((b + 1) - a) rest in
    let tall : 1 * fleets_from least most ≤ ((b + 1) - a) * fleets_from least most = mul-le-mul_right (fleets_from least most) width in
    let same : a ≡ b = omega (arith, wide, one, below.0) in
    let others : least ≡ most = one_fleet least most below.1 (omega (arith, tall, one)) in
    (λ i. same i ∷ others i)

-- the parts have as many as the box
pub parts_have_all : (least most : List ℕ) (place at : ℕ) → place < length least → place < length most → slice_index least place ≤ at → at < slice_index most place
    → fleets_from least (set most place at) + fleets_from (set least place (at + 1)) most ≡ fleets_from least most
parts_have_all [] most place at there within low high = absurd (omega (arith, there))
parts_have_all (a ∷ least) [] place at there within low high = absurd (omega (arith, within))
parts_have_all (a ∷ least) (b ∷ most) zero at there within low high = shared a b at (fleets_from least most) low high
  where
    shared : (a b at rest : ℕ) → a ≤ at → at < b → ((at + 1) - a) * rest + ((b + 1) - (at + 1)) * rest ≡ ((b + 1) - a) * rest
    shared a b at rest low high =
        let widths : ((at + 1) - a) + ((b + 1) - (at + 1)) ≡ (b + 1) - a = omega (arith, low, high) in
        spread ((at + 1) - a) ((b + 1) - (at + 1)) rest ∙ ap (λ (width : ℕ). width * rest) widths
      where
        spread : (x y rest : ℕ) → x * rest + y * rest ≡ (x + y) * rest
        spread x y rest = omega arith
parts_have_all (a ∷ least) (b ∷ most) (suc place) at there within low high =
    let rest : fleets_from least (set most place at) + fleets_from (set least place (at + 1)) most ≡ fleets_from least most = parts_have_all least most place at (omega (arith, there)) (omega (arith, within)) low high in
    gathered ((b + 1) - a) (fleets_from least (set most place at)) (fleets_from (set least place (at + 1)) most) ∙ ap (λ (count : ℕ). ((b + 1) - a) * count) rest
  where
    gathered : (width x y : ℕ) → width * x + width * y ≡ width * (x + y)
    gathered width x y = omega arith

pub all_below : (fleet : List ℕ) → fleets_from (replicate (length fleet) 0) fleet ≡ fleets_below fleet
all_below [] = refl
all_below (units ∷ fleet) =
    let width : (units + 1) - 0 ≡ units + 1 = omega arith in
    (λ i. width i * all_below fleet i)

-- ---- trees

-- a split adds two nodes
pub nodes_in_all : (P : FleetBox → BoxNode → Type 0) (types : ℕ) (boxes : List FleetBox) (nodes : List BoxNode) → AreTrees P types boxes nodes → length nodes ≡ 2 * splits_in nodes + length boxes
nodes_in_all P types [] [] trees = refl
nodes_in_all P types [] (node ∷ nodes) trees = absurd trees
nodes_in_all P types (box ∷ boxes) [] trees = absurd trees
nodes_in_all P types (box ∷ boxes) (Split station unit_type at ∷ nodes) trees =
    let rest = nodes_in_all P types (boxes_below types box (Split station unit_type at) ++ boxes) nodes trees.1 in
    omega (arith, rest)
nodes_in_all P types (box ∷ boxes) (Bound bound branchings tree ∷ nodes) trees = let rest = nodes_in_all P types boxes nodes trees.1 in omega (arith, rest)
nodes_in_all P types (box ∷ boxes) (Nothing branchings tree ∷ nodes) trees = let rest = nodes_in_all P types boxes nodes trees.1 in omega (arith, rest)

-- all fleets of boxes
abbrev pub fleets_of : List FleetBox → ℕ
fleets_of [] = 0
fleets_of (box ∷ boxes) = fleets_from box.least box.greatest + fleets_of boxes

-- what holds of each node: a split parts its box, and each box has a fleet
abbrev pub IsCounted : ℕ → FleetBox → BoxNode → Type 0
IsCounted types box (Split station unit_type at) = IsParted box (station * types + unit_type) at
IsCounted types box (Bound bound branchings tree) = IsNowhereAbove box.least box.greatest
IsCounted types box (Nothing branchings tree) = IsNowhereAbove box.least box.greatest

parts_of : (box : FleetBox) (place at : ℕ) → IsParted box place at
    → fleets_from (lower_part place at box).least (lower_part place at box).greatest + fleets_from (upper_part place at box).least (upper_part place at box).greatest
    ≡ fleets_from box.least box.greatest
parts_of box place at parted = parts_have_all box.least box.greatest place at parted.least_there parted.there parted.from parted.below

-- there are at least as many fleets as leaves
pub enough_fleets : (types : ℕ) (boxes : List FleetBox) (nodes : List BoxNode) → AreTrees (IsCounted types) types boxes nodes → splits_in nodes + length boxes ≤ fleets_of boxes
enough_fleets types [] [] trees = omega arith
enough_fleets types [] (node ∷ nodes) trees = absurd trees
enough_fleets types (box ∷ boxes) [] trees = absurd trees
enough_fleets types (box ∷ boxes) (Split station unit_type at ∷ nodes) trees =
    let parts = parts_of box (station * types + unit_type) at trees.0 in
    let rest = enough_fleets types (boxes_below types box (Split station unit_type at) ++ boxes) nodes trees.1 in
    omega (arith, parts, rest)
enough_fleets types (box ∷ boxes) (Bound bound branchings tree ∷ nodes) trees =
    let some = some_fleets box.least box.greatest trees.0 in
    let rest = enough_fleets types boxes nodes trees.1 in
    omega (arith, some, rest)
enough_fleets types (box ∷ boxes) (Nothing branchings tree ∷ nodes) trees =
    let some = some_fleets box.least box.greatest trees.0 in
    let rest = enough_fleets types boxes nodes trees.1 in
    omega (arith, some, rest)

-- and where there are no more, each leaf with a bound has one fleet
pub each_alone : (types : ℕ) (boxes : List FleetBox) (nodes : List BoxNode) → AreTrees (IsCounted types) types boxes nodes → fleets_of boxes ≤ splits_in nodes + length boxes
    → All (λ leaf. leaf.fleets.least ≡ leaf.fleets.greatest) (bound_leaves types boxes nodes)
each_alone types [] [] trees few = All-nil (λ leaf. leaf.fleets.least ≡ leaf.fleets.greatest)
each_alone types [] (node ∷ nodes) trees few = absurd trees
each_alone types (box ∷ boxes) [] trees few = absurd trees
each_alone types (box ∷ boxes) (Split station unit_type at ∷ nodes) trees few =
    let parts = parts_of box (station * types + unit_type) at trees.0 in
    each_alone types (boxes_below types box (Split station unit_type at) ++ boxes) nodes trees.1 (omega (arith, parts, few))
each_alone types (box ∷ boxes) (Bound bound branchings tree ∷ nodes) trees few =
    let rest = enough_fleets types boxes nodes trees.1 in
    let some = some_fleets box.least box.greatest trees.0 in
    All-cons (λ leaf. leaf.fleets.least ≡ leaf.fleets.greatest) (record { fleets = box; bound = bound.0; tree = tree }) (bound_leaves types boxes nodes)
    (one_fleet box.least box.greatest trees.0 (omega (arith, rest, few)))
    (each_alone types boxes nodes trees.1 (omega (arith, some, few)))
each_alone types (box ∷ boxes) (Nothing branchings tree ∷ nodes) trees few =
    let some = some_fleets box.least box.greatest trees.0 in
    each_alone types boxes nodes trees.1 (omega (arith, some, few))
