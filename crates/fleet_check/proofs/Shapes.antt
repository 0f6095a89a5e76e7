-- How many trees are to come yet after some nodes, and when nodes are one whole tree.
use Rattle.std.proofs.Common.{◌≡◌, ◌≢◌, ℕ, zero, suc, ◌+◌, ◌<◌, ◌≤◌, List, [], ◌∷◌, ◌++◌, length, take, get_or, Option}
use Rattle.std.proofs.Common.{Some, None, refl, sym, ◌∙◌, ap, subst, arith, add-one, unwrap_or, ⊎_elim}
use Rattle.std.proofs.lemmas.Bool.{cases_lt}
use Rattle.std.proofs.Math.Seq.{take-length}
use Rattle.fleet_boxes.specs.declared.boxes.FleetBox.{FleetBox}
use Rattle.fleet_boxes.specs.declared.nodes.BoxNode.{BoxNode}
use Rattle.fleet_boxes.specs.declared.nodes.BoxNode.TheVariants.{Split, Bound, Nothing}
use Rattle.fleet_boxes.specs.ProvedBoxes.{AreTrees, boxes_below}
use Rattle.fleet_check.specs.Tests.{IsPassed}
use Rattle.fleet_check.specs.Verdicts.{IsAfterTree, IsMisshapen, LacksNodes, IsWhole}

-- how many trees come below a node
abbrev pub below : BoxNode → ℕ
below (Split station unit_type at) = 2
below (Bound bound branchings tree) = 0
below (Nothing branchings tree) = 0

-- of so many trees, how many are to come yet after some nodes, and none where there are nodes after all of them
abbrev pub opens : ℕ → List BoxNode → Option ℕ
opens trees [] = Some trees
opens zero (node ∷ nodes) = None
opens (suc trees) (node ∷ nodes) = opens (below node + trees) nodes

-- as many boxes are below a node as trees
pub length-below : (types : ℕ) (box : FleetBox) (node : BoxNode) (boxes : List FleetBox) →
    length (boxes_below types box node ++ boxes) ≡ below node + length boxes
length-below types box (Split station unit_type at) boxes = omega (arith)
length-below types box (Bound bound branchings tree) boxes = omega (arith)
length-below types box (Nothing branchings tree) boxes = omega (arith)

none_not_some : ◌≡◌ {A = Option ℕ} None (Some 0) → ⊥
none_not_some same = absurd (cc)

-- some tree left is not none left
some_not_none : (n : ℕ) → ◌≡◌ {A = Option ℕ} (Some (suc n)) (Some 0) → ⊥
some_not_none n same = absurd (omega (arith, ap {B = ℕ} (λ o. unwrap_or o 0) same))

pub trees_of_opens : (types : ℕ) (boxes : List FleetBox) (nodes : List BoxNode) → opens (length boxes) nodes ≡ Some 0 →
    AreTrees (λ box node. Unit {0}) types boxes nodes
trees_of_opens types [] [] none = tt
trees_of_opens types [] (node ∷ nodes) none = absurd (none_not_some none)
trees_of_opens types (box ∷ boxes) [] none = absurd (some_not_none (length boxes) none)
trees_of_opens types (box ∷ boxes) (node ∷ nodes) none =
    (tt, trees_of_opens types (boxes_below types box node ++ boxes) nodes (ap (λ n. opens n nodes) (length-below types box node boxes) ∙ none))

pub opens_of_trees : (P : FleetBox → BoxNode → Type 0) (types : ℕ) (boxes : List FleetBox) (nodes : List BoxNode) → AreTrees P types boxes nodes →
    opens (length boxes) nodes ≡ Some 0
opens_of_trees P types [] [] trees = refl
opens_of_trees P types [] (node ∷ nodes) trees = absurd trees
opens_of_trees P types (box ∷ boxes) [] trees = absurd trees
opens_of_trees P types (box ∷ boxes) (node ∷ nodes) trees =
    ap (λ n. opens n nodes) (sym (length-below types box node boxes)) ∙ opens_of_trees P types (boxes_below types box node ++ boxes) nodes trees.1

-- some box, whatever it is
abbrev some_box : FleetBox
some_box = record { least = []; greatest = [] }

pub whole_of_opens : (nodes : List BoxNode) → opens 1 nodes ≡ Some 0 → IsWhole nodes
whole_of_opens nodes none = trees_of_opens 0 (some_box ∷ []) nodes none

pub opens_of_whole : (nodes : List BoxNode) → IsWhole nodes → opens 1 nodes ≡ Some 0
opens_of_whole nodes whole = opens_of_trees (λ box node. Unit {0}) 0 (some_box ∷ []) nodes whole

-- a tree over one box has the shape of one
pub whole_of_trees : (P : FleetBox → BoxNode → Type 0) (types : ℕ) (box : FleetBox) (nodes : List BoxNode) → AreTrees P types (box ∷ []) nodes → IsWhole nodes
whole_of_trees P types box nodes trees = whole_of_opens nodes (opens_of_trees P types (box ∷ []) nodes trees)

none_is_not : (n : ℕ) → ◌≡◌ {A = Option ℕ} None (Some n) → ⊥
none_is_not n same = absurd (cc)

same_trees : (n m : ℕ) → ◌≡◌ {A = Option ℕ} (Some (suc n)) (Some (suc m)) → n ≡ m
same_trees n m same = omega (arith, ap {B = ℕ} (λ o. unwrap_or o 0) same)

-- one node more
opens-suc : (trees left : ℕ) (nodes : List BoxNode) (place : ℕ) (d : BoxNode) → place < length nodes → opens trees (take place nodes) ≡ Some (suc left) →
    opens trees (take (suc place) nodes) ≡ Some (below (get_or nodes place d) + left)
opens-suc trees left [] place d inside before = absurd (omega (arith, inside))
opens-suc zero left (node ∷ nodes) zero d inside before = absurd (some_not_none left (sym before))
opens-suc (suc trees) left (node ∷ nodes) zero d inside before = ap (λ n. Some (below node + n)) (same_trees trees left before)
opens-suc zero left (node ∷ nodes) (suc place) d inside before = absurd (none_is_not (suc left) before)
opens-suc (suc trees) left (node ∷ nodes) (suc place) d inside before = opens-suc (below node + trees) left nodes place d (omega (arith, inside)) before

opens_more : (left : ℕ) (nodes : List BoxNode) (place : ℕ) (d : BoxNode) → place < length nodes → opens 1 (take place nodes) ≡ Some (left + 1) →
    opens 1 (take (place + 1) nodes) ≡ Some (below (get_or nodes place d) + left)
opens_more left nodes place d inside before = rw add-one (opens-suc 1 left nodes place d inside (before ∙ ap {A = ℕ} (λ n. Some n) (one_more left)))
  where
    one_more : (n : ℕ) → n + 1 ≡ suc n
    one_more n = omega (arith)

-- nodes after whole trees are too many
opens_past : (trees : ℕ) (nodes : List BoxNode) (place : ℕ) → place < length nodes → opens trees (take place nodes) ≡ Some 0 → opens trees nodes ≡ None
opens_past trees [] place inside before = absurd (omega (arith, inside))
opens_past zero (node ∷ nodes) place inside before = refl
opens_past (suc trees) (node ∷ nodes) zero inside before = absurd (some_not_none trees before)
opens_past (suc trees) (node ∷ nodes) (suc place) inside before = opens_past (below node + trees) nodes place (omega (arith, inside)) before

-- no tree is whole after the first nodes that are one
pub not_after : (nodes : List BoxNode) (place : ℕ) → place < length nodes → IsWhole (take place nodes) → IsWhole nodes → ⊥
not_after nodes place inside front whole =
    none_is_not 0 (sym (opens_past 1 nodes place inside (opens_of_whole (take place nodes) front)) ∙ opens_of_whole nodes whole)

-- a whole tree has the shape of one
pub not_misshapen : (nodes : List BoxNode) → IsWhole nodes → IsPassed (IsMisshapen nodes)
not_misshapen nodes whole verdict (node, is, wrong) = ⊎_elim
    (λ after. not_after nodes node after.0 after.1 whole)
    (λ missing. missing.1 (length nodes) (omega arith) (subst IsWhole (sym (take-length nodes)) whole))
    wrong

some_left : (n : ℕ) → ◌≡◌ {A = Option ℕ} (Some (n + 1)) (Some 0) → ⊥
some_left n same = absurd (omega (arith, ap {B = ℕ} (λ o. unwrap_or o 0) same))

-- what is known after some nodes: how many trees are left, and that at no node before none was
pub record IsOpenAfter (nodes : List BoxNode) (place left : ℕ) : Type 0 where
  pub opened : opens 1 (take place nodes) ≡ Some left
  pub before : (count : ℕ) → count < place → opens 1 (take count nodes) ≢ Some 0
  pub few : left ≤ place + 1

pub shape_begins : (nodes : List BoxNode) → IsOpenAfter nodes 0 1
shape_begins nodes = record { opened = refl; before = λ count below. absurd (omega (arith, below)); few = omega arith }

pub shape_goes_on : (nodes : List BoxNode) (place left next : ℕ) (node : BoxNode) → place < length nodes → node ≡ get_or nodes place node → IsOpenAfter nodes place (left + 1) →
    next ≡ below node + left → next ≤ left + 2 → IsOpenAfter nodes (place + 1) next
shape_goes_on nodes place left next node inside at after is few = record {
  opened = opens_more left nodes place node inside after.opened
      ∙ ap (λ other. Some (below other + left)) (sym at) ∙ ap Some (sym is);
  before = λ count inside. ⊎_elim (λ earlier. after.before count earlier)
      (λ here. λ none. some_left left (sym after.opened ∙ ap (λ n. opens 1 (take n nodes)) (omega (arith, here, inside)) ∙ none))
      (cases_lt count place);
  few = omega (arith, few, after.few);
}

-- trees are left after all nodes
pub is_missing : (nodes : List BoxNode) (place left : ℕ) → place ≡ length nodes → IsOpenAfter nodes place (left + 1) → LacksNodes nodes (length nodes)
is_missing nodes place left all after = (
  refl,
  (λ count inside whole. ⊎_elim
      (λ earlier. after.before count earlier (opens_of_whole (take count nodes) whole))
      (λ here. some_left left (sym after.opened ∙ ap (λ n. opens 1 (take n nodes)) (omega (arith, here, inside, all)) ∙ opens_of_whole (take count nodes) whole))
      (cases_lt count place)),
)

pub is_whole : (nodes : List BoxNode) (place : ℕ) → place ≡ length nodes → IsOpenAfter nodes place 0 → IsWhole nodes
is_whole nodes place all after = whole_of_opens nodes (ap (opens 1) (sym (take-length nodes)) ∙ ap (λ n. opens 1 (take n nodes)) (sym all) ∙ after.opened)

pub is_after_tree : (nodes : List BoxNode) (place : ℕ) → place < length nodes → IsOpenAfter nodes place 0 → IsAfterTree nodes place
is_after_tree nodes place inside after = (inside, whole_of_opens (take place nodes) after.opened)
