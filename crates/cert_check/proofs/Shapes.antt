-- How many trees are to come yet after some nodes, and when nodes are one whole tree.
use Rattle.std.proofs.Common.{◌≡◌, ◌≢◌, ℕ, zero, suc, ◌+◌, ◌<◌, ◌≤◌, List, Bool, [], ◌∷◌, ◌++◌, length, take, get_or}
use Rattle.std.proofs.Common.{slice_get, Option, Some, None, refl, sym, ◌∙◌, ap, subst, arith, add-one, unwrap_or}
use Rattle.std.proofs.Common.{⊎_elim}
use Rattle.std.proofs.lemmas.Bool.{cases_lt}
use Rattle.std.proofs.lemmas.Option.{get_or_from_slice_get}
use Rattle.std.proofs.Math.Seq.{take-length}
use Rattle.branch_tree.specs.declared.cuts.Cut.{Cut}
use Rattle.branch_tree.specs.declared.tree.Node.{Node}
use Rattle.branch_tree.specs.Trees.{Walks, IsWhole, cut_of, regions_below}
use Rattle.cert_check.specs.Reasons.{IsMisshapen, IsMissing, IsAfterTree}
use Rattle.cert_check.specs.Tests.{IsPassed}

-- how many trees come below a node
abbrev pub below : Option Cut → ℕ
below None = 0
below (Some cut) = 2

-- of so many trees, how many are to come yet after some nodes, and none where there are nodes after all of them
abbrev pub opens : ℕ → List Node → Option ℕ
opens trees [] = Some trees
opens zero (node ∷ nodes) = None
opens (suc trees) (node ∷ nodes) = opens (below (cut_of node) + trees) nodes

-- as many regions are below a node as trees
length-below : (catalogue : List (List ℕ)) (region : List (List Bool)) (found : Option Cut) (regions : List (List (List Bool))) →
    length (regions_below catalogue region found ++ regions) ≡ below found + length regions
length-below catalogue region None regions = omega (arith)
length-below catalogue region (Some cut) regions = omega (arith)

none_not_some : ◌≡◌ {A = Option ℕ} None (Some 0) → ⊥
none_not_some same = absurd (cc)

-- some tree left is not none left
some_not_none : (n : ℕ) → ◌≡◌ {A = Option ℕ} (Some (suc n)) (Some 0) → ⊥
some_not_none n same = absurd (omega (arith, ap {B = ℕ} (λ o. unwrap_or o 0) same))

pub walk_of_opens : (catalogue : List (List ℕ)) (regions : List (List (List Bool))) (nodes : List Node) → opens (length regions) nodes ≡ Some 0 →
    Walks cut_of catalogue (λ region node. Unit {0}) regions nodes
walk_of_opens catalogue [] [] none = tt
walk_of_opens catalogue [] (node ∷ nodes) none = absurd (none_not_some none)
walk_of_opens catalogue (region ∷ regions) [] none = absurd (some_not_none (length regions) none)
walk_of_opens catalogue (region ∷ regions) (node ∷ nodes) none =
    (tt, walk_of_opens catalogue (regions_below catalogue region (cut_of node) ++ regions) nodes (ap (λ n. opens n nodes) (length-below catalogue region (cut_of node) regions) ∙ none))

pub opens_of_walk : (catalogue : List (List ℕ)) (regions : List (List (List Bool))) (nodes : List Node) → Walks cut_of catalogue (λ region node. Unit {0}) regions nodes →
    opens (length regions) nodes ≡ Some 0
opens_of_walk catalogue [] [] walks = refl
opens_of_walk catalogue [] (node ∷ nodes) walks = absurd walks
opens_of_walk catalogue (region ∷ regions) [] walks = absurd walks
opens_of_walk catalogue (region ∷ regions) (node ∷ nodes) walks =
    ap (λ n. opens n nodes) (sym (length-below catalogue region (cut_of node) regions)) ∙ opens_of_walk catalogue (regions_below catalogue region (cut_of node) ++ regions) nodes walks.1

pub whole_of_opens : (nodes : List Node) → opens 1 nodes ≡ Some 0 → IsWhole nodes
whole_of_opens nodes none = walk_of_opens [] ([] ∷ []) nodes none

pub opens_of_whole : (nodes : List Node) → IsWhole nodes → opens 1 nodes ≡ Some 0
opens_of_whole nodes whole = opens_of_walk [] ([] ∷ []) nodes whole

none_is_not : (n : ℕ) → ◌≡◌ {A = Option ℕ} None (Some n) → ⊥
none_is_not n same = absurd (cc)

same_trees : (n m : ℕ) → ◌≡◌ {A = Option ℕ} (Some (suc n)) (Some (suc m)) → n ≡ m
same_trees n m same = omega (arith, ap {B = ℕ} (λ o. unwrap_or o 0) same)

-- one node more
opens-suc : (trees left : ℕ) (nodes : List Node) (place : ℕ) (d : Node) → place < length nodes → opens trees (take place nodes) ≡ Some (suc left) →
    opens trees (take (suc place) nodes) ≡ Some (below (cut_of (get_or nodes place d)) + left)
opens-suc trees left [] place d inside before = absurd (omega (arith, inside))
opens-suc zero left (node ∷ nodes) zero d inside before = absurd (some_not_none left (sym before))
opens-suc (suc trees) left (node ∷ nodes) zero d inside before = ap (λ n. Some (below (cut_of node) + n)) (same_trees trees left before)
opens-suc zero left (node ∷ nodes) (suc place) d inside before = absurd (none_is_not (suc left) before)
opens-suc (suc trees) left (node ∷ nodes) (suc place) d inside before = opens-suc (below (cut_of node) + trees) left nodes place d (omega (arith, inside)) before

pub opens_more : (left : ℕ) (nodes : List Node) (place : ℕ) (d : Node) → place < length nodes → opens 1 (take place nodes) ≡ Some (left + 1) →
    opens 1 (take (place + 1) nodes) ≡ Some (below (cut_of (get_or nodes place d)) + left)
opens_more left nodes place d inside before = rw add-one (opens-suc 1 left nodes place d inside (before ∙ ap {A = ℕ} (λ n. Some n) (one_more left)))
  where
    one_more : (n : ℕ) → n + 1 ≡ suc n
    one_more n = omega (arith)

-- nodes after whole trees are too many
opens_past : (trees : ℕ) (nodes : List Node) (place : ℕ) → place < length nodes → opens trees (take place nodes) ≡ Some 0 → opens trees nodes ≡ None
opens_past trees [] place inside before = absurd (omega (arith, inside))
opens_past zero (node ∷ nodes) place inside before = refl
opens_past (suc trees) (node ∷ nodes) zero inside before = absurd (some_not_none trees before)
opens_past (suc trees) (node ∷ nodes) (suc place) inside before = opens_past (below (cut_of node) + trees) nodes place (omega (arith, inside)) before

-- no tree is whole after the first nodes that are one
pub not_after : (nodes : List Node) (place : ℕ) → place < length nodes → IsWhole (take place nodes) → IsWhole nodes → ⊥
not_after nodes place inside front whole =
    none_is_not 0 (sym (opens_past 1 nodes place inside (opens_of_whole (take place nodes) front)) ∙ opens_of_whole nodes whole)

-- a whole tree has the shape of one
pub not_misshapen : (nodes : List Node) → IsWhole nodes → IsPassed (IsMisshapen nodes)
not_misshapen nodes whole reason (node, is, wrong) = ⊎_elim
    (λ after. not_after nodes node after.0 after.1 whole)
    (λ missing. missing.1 (length nodes) (omega arith) (subst IsWhole (sym (take-length nodes)) whole))
    wrong

some_left : (n : ℕ) → ◌≡◌ {A = Option ℕ} (Some (n + 1)) (Some 0) → ⊥
some_left n same = absurd (omega (arith, ap {B = ℕ} (λ o. unwrap_or o 0) same))

-- what is known after some nodes: how many trees are left, and that at no node before none was
pub record IsOpenAfter (nodes : List Node) (place left : ℕ) : Type 0 where
  pub opened : opens 1 (take place nodes) ≡ Some left
  pub before : (count : ℕ) → count < place → opens 1 (take count nodes) ≢ Some 0
  pub few : left ≤ place + 1

pub shape_begins : (nodes : List Node) → IsOpenAfter nodes 0 1
shape_begins nodes = record { opened = refl; before = λ count below. absurd (omega (arith, below)); few = omega arith }

pub shape_goes_on : (nodes : List Node) (place left next : ℕ) (node : Node) → place < length nodes → slice_get nodes place ≡ Some node → IsOpenAfter nodes place (left + 1) →
    next ≡ below (cut_of node) + left → next ≤ left + 2 → IsOpenAfter nodes (place + 1) next
shape_goes_on nodes place left next node inside at after is few = record {
  opened = opens_more left nodes place node inside after.opened
      ∙ ap (λ other. Some (below (cut_of other) + left)) (get_or_from_slice_get nodes place node node at) ∙ ap Some (sym is);
  before = λ count inside. ⊎_elim (λ earlier. after.before count earlier)
      (λ here. λ none. some_left left (sym after.opened ∙ ap (λ n. opens 1 (take n nodes)) (omega (arith, here, inside)) ∙ none))
      (cases_lt count place);
  few = omega (arith, few, after.few);
}

-- trees are left after all nodes
pub is_missing : (nodes : List Node) (place left : ℕ) → place ≡ length nodes → IsOpenAfter nodes place (left + 1) → IsMissing nodes (length nodes)
is_missing nodes place left all after = (
  refl,
  (λ count inside whole. ⊎_elim
      (λ earlier. after.before count earlier (opens_of_whole (take count nodes) whole))
      (λ here. some_left left (sym after.opened ∙ ap (λ n. opens 1 (take n nodes)) (omega (arith, here, inside, all)) ∙ opens_of_whole (take count nodes) whole))
      (cases_lt count place)),
)

pub is_whole : (nodes : List Node) (place : ℕ) → place ≡ length nodes → IsOpenAfter nodes place 0 → IsWhole nodes
is_whole nodes place all after = whole_of_opens nodes (ap (opens 1) (sym (take-length nodes)) ∙ ap (λ n. opens 1 (take n nodes)) (sym all) ∙ after.opened)

pub is_after_tree : (nodes : List Node) (place : ℕ) → place < length nodes → IsOpenAfter nodes place 0 → IsAfterTree nodes place
is_after_tree nodes place inside after = (inside, whole_of_opens (take place nodes) after.opened)
