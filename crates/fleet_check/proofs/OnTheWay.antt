-- The nodes of a tree that are still to be tested, and the boxes that wait, on the way through them in preorder.
use Rattle.std.proofs.Common.{◌≡◌, ℕ, zero, suc, List, [], ◌∷◌, ◌++◌, ◌+◌, ◌<◌, ◌≤◌, length, drop, get_or, Some, None, Option}
use Rattle.std.proofs.Common.{refl, sym, ◌∙◌, ap, subst, arith, ℤ, inl, inr, unwrap_or}
use Rattle.std.specs.Prelude.{reverse}
use Rattle.std.proofs.lemmas.List.{append_assoc, append-nil, drop_more, reverse-append}
use Rattle.std.proofs.Math.ListN.{drop_of_length-le}
use Rattle.timetable.specs.Accepted.{IsSoundDay}
use Rattle.timetable.specs.Day.{Day}
use Rattle.branch_tree.specs.Trees.{IsLeastOf}
use Rattle.fleet_boxes.specs.declared.boxes.FleetBox.{FleetBox}
use Rattle.fleet_boxes.specs.declared.nodes.BoxNode.{BoxNode}
use Rattle.fleet_boxes.specs.declared.nodes.BoxNode.TheVariants.{Split, Bound, Nothing}
use Rattle.fleet_boxes.specs.Boxes.{box_of}
use Rattle.fleet_boxes.specs.ProvedBoxes.{AreProved, AreTrees, IsProvedAt, boxes_below, values_in, values_of}
use Rattle.fleet_check.specs.declared.leaves.Leaves.{Leaves}
use Rattle.fleet_check.specs.declared.verdict.FleetVerdict.{FleetVerdict}
use Rattle.fleet_check.specs.declared.verdict.Stop.{Stop}
use Rattle.fleet_check.specs.declared.verdict.Stop.TheVariants.{Found, NoMemory}
use Rattle.fleet_check.specs.Tests.{FirstFails, StopsAt}
use Rattle.fleet_check.specs.Verdicts.{FailsAt, IsWhole, splits_in, tests_from}
use Rattle.fleet_check.specs.Walks.{AreLeavesOf, IsFittingBox}
use Rattle.fleet_check.proofs.Fitting.{Fit, parts_fit, root_fits}
use Rattle.fleet_check.proofs.Passing.{passed_node}
use Rattle.fleet_check.proofs.Shapes.{length-below, opens, opens_of_whole}

-- what the nodes from a number on say of the whole tree, where those before it passed their tests: over the boxes that
-- wait they are the trees that are to come yet
pub record IsOnWay (day : Day) (prices : List ℕ) (all : List BoxNode) (number : ℕ) (boxes : List FleetBox) (rest : List BoxNode) (leaves : Leaves) : Type 0 where
  pub opened : opens (length boxes) rest ≡ Some 0
  pub fit : Fit day boxes
  pub covers : AreTrees (IsProvedAt day) (length day.types) boxes rest → AreProved day all
  pub first : (verdict : FleetVerdict) → FirstFails (tests_from day number boxes rest) verdict
      → FirstFails (tests_from day 0 (box_of day ∷ []) all) verdict
  pub splits : leaves.splits + splits_in rest ≡ splits_in all
  pub values : List ℤ
  pub least : IsLeastOf values leaves.least
  pub parts : values ++ values_in (length day.types) prices boxes rest ≡ values_of day prices all

pub way_begins : (day : Day) (prices : List ℕ) (all : List BoxNode) (leaves : Leaves) → IsSoundDay day → IsWhole all
    → leaves.splits ≡ 0 → leaves.least ≡ None → IsOnWay day prices all 0 (box_of day ∷ []) all leaves
way_begins day prices all leaves sound whole none lacking = record {
  opened = opens_of_whole all whole;
  fit = (root_fits day sound, tt);
  covers = λ trees. trees;
  first = λ verdict fails. fails;
  splits = omega (arith, none);
  values = [];
  least = subst (IsLeastOf []) (sym lacking) refl;
  parts = refl;
}

-- what a node says of the leaves, and those after it
splits_node : (node : BoxNode) (rest : List BoxNode) → splits_in (node ∷ []) + splits_in rest ≡ splits_in (node ∷ rest)
splits_node (Split station unit_type at) rest = omega arith
splits_node (Bound bound branchings tree) rest = omega arith
splits_node (Nothing branchings tree) rest = omega arith

values_node : (types : ℕ) (prices : List ℕ) (box : FleetBox) (boxes : List FleetBox) (node : BoxNode) (rest : List BoxNode)
    → values_in types prices (box ∷ []) (node ∷ []) ++ values_in types prices (boxes_below types box node ++ boxes) rest
    ≡ values_in types prices (box ∷ boxes) (node ∷ rest)
values_node types prices box boxes (Split station unit_type at) rest = refl
values_node types prices box boxes (Bound bound branchings tree) rest = refl
values_node types prices box boxes (Nothing branchings tree) rest = refl

way_goes_on : (day : Day) (prices : List ℕ) (all : List BoxNode) (number : ℕ) (box : FleetBox) (boxes : List FleetBox) (node : BoxNode) (rest : List BoxNode) (leaves more : Leaves)
    → IsProvedAt day box node → more.splits ≡ leaves.splits + splits_in (node ∷ [])
    → ((values : List ℤ) → IsLeastOf values leaves.least → IsLeastOf (values ++ values_in (length day.types) prices (box ∷ []) (node ∷ [])) more.least)
    → IsOnWay day prices all number (box ∷ boxes) (node ∷ rest) leaves
    → IsOnWay day prices all (suc number) (boxes_below (length day.types) box node ++ boxes) rest more
way_goes_on day prices all number box boxes node rest leaves more proved counted lesser way =
    let types : ℕ = length day.types in
    let here : List ℤ = values_in types prices (box ∷ []) (node ∷ []) in
    record {
      opened = ap (λ n. opens n rest) (length-below types box node boxes) ∙ way.opened;
      fit = parts_fit day box node boxes way.fit.0 proved way.fit.1;
      covers = λ trees. way.covers (proved, trees);
      first = λ verdict fails. way.first verdict (inr (passed_node day number box node proved, fails));
      splits = omega (arith, counted, splits_node node rest, way.splits);
      values = way.values ++ here;
      least = lesser way.values way.least;
      parts = append_assoc way.values here (values_in types prices (boxes_below types box node ++ boxes) rest)
          ∙ ap (λ (vs : List ℤ). way.values ++ vs) (values_node types prices box boxes node rest) ∙ way.parts;
    }

way_stops : (day : Day) (prices : List ℕ) (all : List BoxNode) (number : ℕ) (box : FleetBox) (boxes : List FleetBox) (node : BoxNode) (rest : List BoxNode) (leaves : Leaves) (stop : Stop)
    → StopsAt (FailsAt day number box node ∷ []) stop → IsOnWay day prices all number (box ∷ boxes) (node ∷ rest) leaves
    → StopsAt (tests_from day 0 (box_of day ∷ []) all) stop
way_stops day prices all number box boxes node rest leaves (Found verdict) fails way = way.first verdict (elim fails [
  | inl here ↦ inl here
  | inr later ↦ absurd later.1
])
way_stops day prices all number box boxes node rest leaves NoMemory fails way = tt

-- ---- by the number of a node, with the boxes that wait on a stack: the next is the last

-- a node of a list, and the nodes from it on
drop_at : (nodes : List BoxNode) (number : ℕ) (node : BoxNode) → number < length nodes → node ≡ get_or nodes number node
    → drop number nodes ≡ node ∷ drop (number + 1) nodes
drop_at nodes number node inside at =
    drop_more nodes number node inside ∙ ap (λ (one : BoxNode). one ∷ drop (number + 1) nodes) (sym at)

abbrev pub IsHere : Day → List ℕ → List BoxNode → ℕ → List FleetBox → Leaves → Type 0
IsHere day prices all number waiting leaves = IsOnWay day prices all number (reverse waiting) (drop number all) leaves

pub begins : (day : Day) (prices : List ℕ) (all : List BoxNode) (before waiting : List FleetBox) (root : FleetBox) (leaves : Leaves) → IsSoundDay day → IsWhole all
    → before ≡ [] → waiting ≡ before ++ root ∷ [] → root ≡ box_of day → leaves.splits ≡ 0 → leaves.least ≡ None → IsHere day prices all 0 waiting leaves
begins day prices all before waiting root leaves sound whole empty is all_fleets none lacking =
    let one : waiting ≡ box_of day ∷ [] =
    is ∙ ap (λ (bs : List FleetBox). bs ++ root ∷ []) empty ∙ ap (λ (b : FleetBox). b ∷ []) all_fleets in
    subst (λ (bs : List FleetBox). IsOnWay day prices all 0 (reverse bs) all leaves) (sym one)
    (way_begins day prices all leaves sound whole none lacking)

none_left : (n : ℕ) → ◌≡◌ {A = Option ℕ} None (Some n) → ⊥
none_left n same = absurd cc

no_items : (boxes : List FleetBox) → length boxes ≡ 0 → boxes ≡ []
no_items [] empty = refl
no_items (box ∷ boxes) empty = absurd (omega (arith, empty))

-- some box waits while nodes are left
pub some_wait : (day : Day) (prices : List ℕ) (all : List BoxNode) (number : ℕ) (waiting : List FleetBox) (leaves : Leaves) (node : BoxNode)
    → number < length all → node ≡ get_or all number node → IsHere day prices all number waiting leaves → length waiting ≡ 0 → ⊥
some_wait day prices all number waiting leaves node inside at here empty =
    let none : waiting ≡ [] = no_items waiting empty in
    let opened : opens (length (reverse waiting)) (node ∷ drop (number + 1) all) ≡ Some 0 =
    subst (λ (nodes : List BoxNode). opens (length (reverse waiting)) nodes ≡ Some 0) (drop_at all number node inside at) here.opened in
    none_left 0 (subst (λ (bs : List FleetBox). opens (length (reverse bs)) (node ∷ drop (number + 1) all) ≡ Some 0) none opened)

-- the last of those that wait is the first in order
last_first : (waiting left : List FleetBox) (box : FleetBox) → waiting ≡ left ++ box ∷ [] → reverse waiting ≡ box ∷ reverse left
last_first waiting left box is = ap (λ (bs : List FleetBox). reverse bs) is ∙ reverse-append left (box ∷ [])

way_here : (day : Day) (prices : List ℕ) (all : List BoxNode) (number : ℕ) (waiting left : List FleetBox) (box : FleetBox) (leaves : Leaves) (node : BoxNode)
    → number < length all → node ≡ get_or all number node → waiting ≡ left ++ box ∷ [] → IsHere day prices all number waiting leaves
    → IsOnWay day prices all number (box ∷ reverse left) (node ∷ drop (number + 1) all) leaves
way_here day prices all number waiting left box leaves node inside at is here =
    subst (λ (nodes : List BoxNode). IsOnWay day prices all number (box ∷ reverse left) nodes leaves) (drop_at all number node inside at)
    (subst (λ (bs : List FleetBox). IsOnWay day prices all number bs (drop number all) leaves) (last_first waiting left box is) here)

-- the next box is one of the day
pub fits_here : (day : Day) (prices : List ℕ) (all : List BoxNode) (number : ℕ) (waiting left : List FleetBox) (box : FleetBox) (leaves : Leaves) (node : BoxNode)
    → number < length all → node ≡ get_or all number node → waiting ≡ left ++ box ∷ [] → IsHere day prices all number waiting leaves → IsFittingBox day box
fits_here day prices all number waiting left box leaves node inside at is here =
    (way_here day prices all number waiting left box leaves node inside at is here).fit.0

pub goes_on : (day : Day) (prices : List ℕ) (all : List BoxNode) (number : ℕ) (waiting left after : List FleetBox) (box : FleetBox) (leaves more : Leaves) (node : BoxNode)
    → number < length all → node ≡ get_or all number node → waiting ≡ left ++ box ∷ [] → IsHere day prices all number waiting leaves
    → IsProvedAt day box node → more.splits ≡ leaves.splits + splits_in (node ∷ [])
    → ((values : List ℤ) → IsLeastOf values leaves.least → IsLeastOf (values ++ values_in (length day.types) prices (box ∷ []) (node ∷ [])) more.least)
    → reverse after ≡ boxes_below (length day.types) box node ++ reverse left → IsHere day prices all (number + 1) after more
goes_on day prices all number waiting left after box leaves more node inside at is here proved counted lesser waits =
    subst (λ (bs : List FleetBox). IsOnWay day prices all (number + 1) bs (drop (number + 1) all) more) (sym waits)
    (subst (λ (n : ℕ). IsOnWay day prices all n (boxes_below (length day.types) box node ++ reverse left) (drop (number + 1) all) more) (next number)
    (way_goes_on day prices all number box (reverse left) node (drop (number + 1) all) leaves more proved counted lesser
    (way_here day prices all number waiting left box leaves node inside at is here)))
  where
    next : (n : ℕ) → suc n ≡ n + 1
    next n = omega arith

pub stops : (day : Day) (prices : List ℕ) (all : List BoxNode) (number : ℕ) (waiting left : List FleetBox) (box : FleetBox) (leaves : Leaves) (node : BoxNode) (stop : Stop)
    → number < length all → node ≡ get_or all number node → waiting ≡ left ++ box ∷ [] → IsHere day prices all number waiting leaves
    → StopsAt (FailsAt day number box node ∷ []) stop → StopsAt (tests_from day 0 (box_of day ∷ []) all) stop
stops day prices all number waiting left box leaves node stop inside at is here fails =
    way_stops day prices all number box (reverse left) node (drop (number + 1) all) leaves stop fails
    (way_here day prices all number waiting left box leaves node inside at is here)

-- whole trees have as many nodes more than splits as they are, at the least
fewer_splits : (trees : ℕ) (nodes : List BoxNode) → opens trees nodes ≡ Some 0 → splits_in nodes + trees ≤ length nodes
fewer_splits trees [] none = omega (arith, ap {B = ℕ} (λ o. unwrap_or o 0) none)
fewer_splits zero (node ∷ nodes) none = absurd (none_left 0 none)
fewer_splits (suc trees) (Split station unit_type at ∷ nodes) none = omega (arith, fewer_splits (2 + trees) nodes none)
fewer_splits (suc trees) (Bound bound branchings tree ∷ nodes) none = omega (arith, fewer_splits (0 + trees) nodes none)
fewer_splits (suc trees) (Nothing branchings tree ∷ nodes) none = omega (arith, fewer_splits (0 + trees) nodes none)

no_boxes : (boxes : List FleetBox) → opens (length boxes) [] ≡ Some 0 → boxes ≡ []
no_boxes [] none = refl
no_boxes (box ∷ boxes) none = absurd (omega (arith, ap {B = ℕ} (λ o. unwrap_or o 0) none))

pub ends : (day : Day) (prices : List ℕ) (all : List BoxNode) (number : ℕ) (waiting : List FleetBox) (leaves : Leaves) → length all ≤ number
    → IsHere day prices all number waiting leaves → AreLeavesOf day prices all leaves
ends day prices all number waiting leaves past here = at_end (reverse waiting)
    (subst (λ (nodes : List BoxNode). IsOnWay day prices all number (reverse waiting) nodes leaves) (drop_of_length-le all past) here)
  where
    at_end : (boxes : List FleetBox) → IsOnWay day prices all number boxes [] leaves → AreLeavesOf day prices all leaves
    at_end boxes way = record {
      proved = way.covers (subst (λ (bs : List FleetBox). AreTrees (IsProvedAt day) (length day.types) bs []) (sym (no_boxes boxes way.opened)) tt);
      splits = omega (arith, way.splits);
      least = subst (λ (vs : List ℤ). IsLeastOf vs leaves.least) (sym (append-nil way.values) ∙ way.parts) way.least;
    }

-- fewer splits than nodes, so far
pub few_so_far : (day : Day) (prices : List ℕ) (all : List BoxNode) (number : ℕ) (waiting : List FleetBox) (leaves : Leaves) (most : ℕ) → IsWhole all
    → length all ≤ most → IsHere day prices all number waiting leaves → leaves.splits < most
few_so_far day prices all number waiting leaves most whole few here =
    let fewer = fewer_splits 1 all (opens_of_whole all whole) in omega (arith, here.splits, fewer, few)
