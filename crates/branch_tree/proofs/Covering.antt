-- The leaves of a tree cover its root, each of the root's picks once.
use Rattle.std.proofs.Common.{◌≡◌, ℕ, suc, ◌+◌, ◌*◌, ◌<◌, List, [], ◌∷◌, ◌++◌, length, Bool, true, false, not, cond}
use Rattle.std.proofs.Common.{is_some, is_none, if◌then◌else◌, Option, Some, None, MatchOption, refl, ◌∙◌, ap, arith}
use Rattle.branch_tree.specs.declared.cuts.Cut.{Cut}
use Rattle.branch_tree.specs.declared.cuts.Cut.TheVariants.{Only, AtMost}
use Rattle.branch_tree.specs.declared.cuts.Side.TheVariants.{Left, Right}
use Rattle.branch_tree.specs.Cuts.{trip_of, side_of, IsInRange, IsProper}
use Rattle.branch_tree.specs.Laws.{leaves_with, LeavesCover, LeavesExceedBranches, IsDivided}
use Rattle.branch_tree.specs.Regions.{are_in}
use Rattle.branch_tree.specs.Trees.{Walks, cut_of, regions_below, leaves_in, branches_in}
use Rattle.branch_tree.proofs.Dividing.{cuts_divide}

-- how many of the regions have these picks
unfoldable pub regions_with : List ℕ → List (List (List Bool)) → ℕ
regions_with picks [] = 0
regions_with picks (region ∷ regions) = (if are_in picks region then 1 else 0) + regions_with picks regions

pub trip_inside : (catalogue : List (List ℕ)) (region : List (List Bool)) (cut : Cut) → IsInRange catalogue region cut → trip_of cut < length region
trip_inside catalogue region (Only trip comp) range = range.0
trip_inside catalogue region (AtMost trip unit_type count) range = range.0

-- picks are on one side of a proper cut where they are in the region, and else on none
one_of : (whole left right : Bool) → (whole ≡ true → left ≡ not right) → (left ≡ true → whole ≡ true) → (right ≡ true → whole ≡ true) →
    (if left then 1 else 0) + (if right then 1 else 0) ≡ (if whole then 1 else 0)
one_of true true true one inside-left inside-right = absurd (one_true (one refl))
  where
    one_true : true ≡ false → ⊥
    one_true wrong = cc
one_of true true false one inside-left inside-right = refl
one_of true false true one inside-left inside-right = refl
one_of true false false one inside-left inside-right = absurd (none_true (one refl))
  where
    none_true : false ≡ true → ⊥
    none_true wrong = cc
one_of false true right one inside-left inside-right = absurd (left_true (inside-left refl))
  where
    left_true : false ≡ true → ⊥
    left_true wrong = cc
one_of false false true one inside-left inside-right = absurd (right_true (inside-right refl))
  where
    right_true : false ≡ true → ⊥
    right_true wrong = cc
one_of false false false one inside-left inside-right = refl

sides_with : (catalogue : List (List ℕ)) (region : List (List Bool)) (cut : Cut) (picks : List ℕ) → IsProper catalogue region cut →
    (if are_in picks (side_of catalogue cut Left region) then 1 else 0) + (if are_in picks (side_of catalogue cut Right region) then 1 else 0) ≡ (if are_in picks region then 1 else 0)
sides_with catalogue region cut picks proper =
    let divided : IsDivided catalogue cut region picks = cuts_divide catalogue cut region picks (trip_inside catalogue region cut proper.in_range) in
    one_of (are_in picks region) (are_in picks (side_of catalogue cut Left region)) (are_in picks (side_of catalogue cut Right region))
    divided.one (divided.inside Left) (divided.inside Right)

-- the two sides of a proper cut have the picks that its region has
pub regions_below-with : (catalogue : List (List ℕ)) (picks : List ℕ) (region : List (List Bool)) (regions : List (List (List Bool))) (cut : Cut) → IsProper catalogue region cut →
    regions_with picks (regions_below catalogue region (Some cut) ++ regions) ≡ regions_with picks (region ∷ regions)
unfolding regions_with
regions_below-with catalogue picks region regions cut proper = omega (arith, sides_with catalogue region cut picks proper)

-- one node more: the picks of a branch's region are those of its sides, and those of a leaf's are the leaf's own
one_node : {N : Type 0} → (catalogue : List (List ℕ)) (picks : List ℕ) (region : List (List Bool)) (regions : List (List (List Bool))) (node : N) (found : Option Cut) (rest : List (List (List Bool) × N)) →
    MatchOption found (Unit {0}) (IsProper catalogue region) → leaves_with picks rest ≡ regions_with picks (regions_below catalogue region found ++ regions) →
    leaves_with picks (cond (is_none found) ((region, node) ∷ rest) rest) ≡ regions_with picks (region ∷ regions)
unfolding regions_with
one_node catalogue picks region regions node None rest proper below = ap (λ n. (if are_in picks region then 1 else 0) + n) below
one_node catalogue picks region regions node (Some cut) rest proper below = omega (arith, below, sides_with catalogue region cut picks proper)

leaves_with-regions : {N : Type 0} → (cut_of : N → Option Cut) (catalogue : List (List ℕ)) (picks : List ℕ) (regions : List (List (List Bool))) (nodes : List N) →
    Walks cut_of catalogue (λ region node. MatchOption (cut_of node) (Unit {0}) (IsProper catalogue region)) regions nodes →
    leaves_with picks (leaves_in cut_of catalogue regions nodes) ≡ regions_with picks regions
unfolding regions_with
leaves_with-regions cut_of catalogue picks [] [] walks = refl
leaves_with-regions cut_of catalogue picks [] (node ∷ nodes) walks = absurd walks
leaves_with-regions cut_of catalogue picks (region ∷ regions) [] walks = absurd walks
leaves_with-regions cut_of catalogue picks (region ∷ regions) (node ∷ nodes) walks =
    one_node catalogue picks region regions node (cut_of node) (leaves_in cut_of catalogue (regions_below catalogue region (cut_of node) ++ regions) nodes) walks.0
    (leaves_with-regions cut_of catalogue picks (regions_below catalogue region (cut_of node) ++ regions) nodes walks.1)

pub leaves_cover : LeavesCover
unfolding regions_with
leaves_cover catalogue root nodes picks covers inside =
    leaves_with-regions cut_of catalogue picks (root ∷ []) nodes covers ∙ ap (λ b. (if b then 1 else 0) + 0) inside

-- a branch counts its two sides, and a leaf none
nodes_left : (catalogue : List (List ℕ)) (region : List (List Bool)) (regions : List (List (List Bool))) (found : Option Cut) (nodes branches : ℕ) →
    nodes ≡ 2 * branches + length (regions_below catalogue region found ++ regions) → suc nodes ≡ 2 * ((if is_some found then 1 else 0) + branches) + suc (length regions)
nodes_left catalogue region regions None nodes branches below = omega (arith, below)
nodes_left catalogue region regions (Some cut) nodes branches below = omega (arith, below)

pub length-walk : {N : Type 0} → (cut_of : N → Option Cut) (catalogue : List (List ℕ)) (P : List (List Bool) → N → Type 0) (regions : List (List (List Bool))) (nodes : List N) →
    Walks cut_of catalogue P regions nodes → length nodes ≡ 2 * branches_in cut_of nodes + length regions
length-walk cut_of catalogue P [] [] walks = refl
length-walk cut_of catalogue P [] (node ∷ nodes) walks = absurd walks
length-walk cut_of catalogue P (region ∷ regions) [] walks = absurd walks
length-walk cut_of catalogue P (region ∷ regions) (node ∷ nodes) walks =
    nodes_left catalogue region regions (cut_of node) (length nodes) (branches_in cut_of nodes)
    (length-walk cut_of catalogue P (regions_below catalogue region (cut_of node) ++ regions) nodes walks.1)

pub leaves_exceed_branches : LeavesExceedBranches
leaves_exceed_branches nodes whole = length-walk cut_of [] (λ region node. Unit {0}) ([] ∷ []) nodes whole
