-- Facts throughout a tree: of each node in its region, and after a leaf is replaced by a tree.
use Rattle.std.proofs.Common.{◌≡◌, ℕ, List, Bool, [], ◌∷◌, ◌++◌, length, All, Option, Some, None, sym, subst, arith}
use Rattle.std.proofs.lemmas.List.{append_assoc}
use Rattle.std.proofs.lemmas.List.Elements.{All-cons, All-nil, All-head, All-tail}
use Rattle.branch_tree.specs.declared.cuts.Cut.{Cut}
use Rattle.branch_tree.specs.declared.tree.Node.{Node}
use Rattle.branch_tree.specs.Claims.{IsProvedAt, DoFitAt, IsBoundAt, IsRayAt, IsEmptyAt}
use Rattle.branch_tree.specs.Laws.{CoversEach, LeavesGrow, ProvedAtEachNode}
use Rattle.branch_tree.specs.Meanings.{Meanings}
use Rattle.branch_tree.specs.Trees.{Walks, IsProperAt, cut_of, regions_below, nodes_in, regions_left}

-- as many regions are below a node, whatever the regions are
below_length : (catalogue other : List (List ℕ)) (region another : List (List Bool)) (found : Option Cut) (regions others : List (List (List Bool))) → length regions ≡ length others →
    length (regions_below catalogue region found ++ regions) ≡ length (regions_below other another found ++ others)
below_length catalogue other region another None regions others same = same
below_length catalogue other region another (Some cut) regions others same = omega (arith, same)

-- nodes that are whole trees are that over any regions
whole_walk : {N : Type 0} → (cut_of : N → Option Cut) (catalogue other : List (List ℕ)) (P : List (List Bool) → N → Type 0) (regions others : List (List (List Bool))) (nodes : List N) →
    length regions ≡ length others → Walks cut_of catalogue P regions nodes → Walks cut_of other (λ region node. Unit {0}) others nodes
whole_walk cut_of catalogue other P [] [] [] same walks = tt
whole_walk cut_of catalogue other P [] (another ∷ others) [] same walks = absurd (omega (arith, same))
whole_walk cut_of catalogue other P [] others (node ∷ nodes) same walks = absurd walks
whole_walk cut_of catalogue other P (region ∷ regions) others [] same walks = absurd walks
whole_walk cut_of catalogue other P (region ∷ regions) [] (node ∷ nodes) same walks = absurd (omega (arith, same))
whole_walk cut_of catalogue other P (region ∷ regions) (another ∷ others) (node ∷ nodes) same walks = (
  tt,
  whole_walk cut_of catalogue other P (regions_below catalogue region (cut_of node) ++ regions) (regions_below other another (cut_of node) ++ others) nodes
      (below_length catalogue other region another (cut_of node) regions others (omega (arith, same))) walks.1,
)

each_of_walk : {N : Type 0} → (cut_of : N → Option Cut) (catalogue : List (List ℕ)) (P : List (List Bool) → N → Type 0) (regions : List (List (List Bool))) (nodes : List N) →
    Walks cut_of catalogue P regions nodes → All (λ placed. P placed.0 placed.1) (nodes_in cut_of catalogue regions nodes)
each_of_walk cut_of catalogue P regions [] walks = All-nil (λ placed. P placed.0 placed.1)
each_of_walk cut_of catalogue P [] (node ∷ nodes) walks = absurd walks
each_of_walk cut_of catalogue P (region ∷ regions) (node ∷ nodes) walks =
    All-cons (λ placed. P placed.0 placed.1) (region, node) (nodes_in cut_of catalogue (regions_below catalogue region (cut_of node) ++ regions) nodes) walks.0
    (each_of_walk cut_of catalogue P (regions_below catalogue region (cut_of node) ++ regions) nodes walks.1)

walk_of_each : {N : Type 0} → (cut_of : N → Option Cut) (catalogue other : List (List ℕ)) (P : List (List Bool) → N → Type 0) (regions others : List (List (List Bool))) (nodes : List N) →
    length regions ≡ length others → Walks cut_of other (λ region node. Unit {0}) others nodes → All (λ placed. P placed.0 placed.1) (nodes_in cut_of catalogue regions nodes) →
    Walks cut_of catalogue P regions nodes
walk_of_each cut_of catalogue other P [] others [] same walks each = tt
walk_of_each cut_of catalogue other P [] [] (node ∷ nodes) same walks each = absurd walks
walk_of_each cut_of catalogue other P [] (another ∷ others) (node ∷ nodes) same walks each = absurd (omega (arith, same))
walk_of_each cut_of catalogue other P (region ∷ regions) [] nodes same walks each = absurd (omega (arith, same))
walk_of_each cut_of catalogue other P (region ∷ regions) (another ∷ others) [] same walks each = absurd walks
walk_of_each cut_of catalogue other P (region ∷ regions) (another ∷ others) (node ∷ nodes) same walks each = (
  All-head (λ placed. P placed.0 placed.1) (region, node) (nodes_in cut_of catalogue (regions_below catalogue region (cut_of node) ++ regions) nodes) each,
  walk_of_each cut_of catalogue other P (regions_below catalogue region (cut_of node) ++ regions) (regions_below other another (cut_of node) ++ others) nodes
      (below_length catalogue other region another (cut_of node) regions others (omega (arith, same))) walks.1
      (All-tail (λ placed. P placed.0 placed.1) (region, node) (nodes_in cut_of catalogue (regions_below catalogue region (cut_of node) ++ regions) nodes) each),
)

pub covers_each : (P : List (List Bool) → Node → Type 0) → CoversEach P
covers_each P catalogue root nodes = (
  (λ covers. (whole_walk cut_of catalogue [] P (root ∷ []) ([] ∷ []) nodes (omega arith) covers, each_of_walk cut_of catalogue P (root ∷ []) nodes covers)),
  (λ both. walk_of_each cut_of catalogue [] P (root ∷ []) ([] ∷ []) nodes (omega arith) both.0 both.1),
)

-- trees over regions, and then trees over others
pub walks_append : {N : Type 0} → (cut_of : N → Option Cut) (catalogue : List (List ℕ)) (P : List (List Bool) → N → Type 0) (regions others : List (List (List Bool))) (nodes after : List N) →
    Walks cut_of catalogue P regions nodes → Walks cut_of catalogue P others after → Walks cut_of catalogue P (regions ++ others) (nodes ++ after)
walks_append cut_of catalogue P [] others [] after walks rest = rest
walks_append cut_of catalogue P [] others (node ∷ nodes) after walks rest = absurd walks
walks_append cut_of catalogue P (region ∷ regions) others [] after walks rest = absurd walks
walks_append cut_of catalogue P (region ∷ regions) others (node ∷ nodes) after walks rest = (
  walks.0,
  subst (λ all. Walks cut_of catalogue P all (nodes ++ after)) (append_assoc (regions_below catalogue region (cut_of node)) regions others)
      (walks_append cut_of catalogue P (regions_below catalogue region (cut_of node) ++ regions) others nodes after walks.1 rest),
)

-- a leaf may be replaced by the nodes of a tree over its region
pub walks_graft : {N : Type 0} → (cut_of : N → Option Cut) (catalogue : List (List ℕ)) (P : List (List Bool) → N → Type 0) (regions : List (List (List Bool)))
    (region : List (List Bool)) (left : List (List (List Bool))) (before nodes after : List N) (leaf : N) →
    cut_of leaf ≡ None → regions_left cut_of catalogue regions before ≡ region ∷ left →
    Walks cut_of catalogue P regions (before ++ leaf ∷ after) → Walks cut_of catalogue P (region ∷ []) nodes → Walks cut_of catalogue P regions (before ++ nodes ++ after)
walks_graft cut_of catalogue P regions region left [] nodes after leaf none here walks grown =
    let at : Walks cut_of catalogue P (region ∷ left) (leaf ∷ after) = subst (λ all. Walks cut_of catalogue P all (leaf ∷ after)) here walks in
    let rest : Walks cut_of catalogue P left after = subst (λ found. Walks cut_of catalogue P (regions_below catalogue region found ++ left) after) none at.1 in
    subst (λ all. Walks cut_of catalogue P all (nodes ++ after)) (sym here) (walks_append cut_of catalogue P (region ∷ []) left nodes after grown rest)
walks_graft cut_of catalogue P [] region left (node ∷ before) nodes after leaf none here walks grown = absurd walks
walks_graft cut_of catalogue P (first ∷ regions) region left (node ∷ before) nodes after leaf none here walks grown =
    (walks.0, walks_graft cut_of catalogue P (regions_below catalogue first (cut_of node) ++ regions) region left before nodes after leaf none here walks.1 grown)

pub leaves_grow : (P : List (List Bool) → Node → Type 0) → LeavesGrow P
leaves_grow P catalogue root region left before nodes after leaf none here covers grown =
    walks_graft cut_of catalogue P (root ∷ []) region left before nodes after leaf none here covers grown

-- what follows of each node from a fact follows throughout a tree
pub walks_map : {N : Type 0} → (cut_of : N → Option Cut) (catalogue : List (List ℕ)) (P Q : List (List Bool) → N → Type 0) → ((region : List (List Bool)) (node : N) → P region node → Q region node) →
    (regions : List (List (List Bool))) (nodes : List N) → Walks cut_of catalogue P regions nodes → Walks cut_of catalogue Q regions nodes
walks_map cut_of catalogue P Q follows [] [] walks = tt
walks_map cut_of catalogue P Q follows [] (node ∷ nodes) walks = absurd walks
walks_map cut_of catalogue P Q follows (region ∷ regions) [] walks = absurd walks
walks_map cut_of catalogue P Q follows (region ∷ regions) (node ∷ nodes) walks =
    (follows region node walks.0, walks_map cut_of catalogue P Q follows (regions_below catalogue region (cut_of node) ++ regions) nodes walks.1)

-- the facts of a proved claim, together at each node
pub proved_at : (problem : Meanings) (regions : List (List (List Bool))) (nodes : List Node) →
    Walks cut_of problem.catalogue (IsProperAt problem.catalogue) regions nodes → Walks cut_of problem.catalogue (DoFitAt problem) regions nodes →
    Walks cut_of problem.catalogue (IsBoundAt problem) regions nodes → Walks cut_of problem.catalogue (IsRayAt problem) regions nodes → Walks cut_of problem.catalogue (IsEmptyAt problem) regions nodes →
    Walks cut_of problem.catalogue (IsProvedAt problem) regions nodes
proved_at problem [] [] a b c d e = tt
proved_at problem [] (node ∷ nodes) a b c d e = absurd a
proved_at problem (region ∷ regions) [] a b c d e = absurd a
proved_at problem (region ∷ regions) (node ∷ nodes) a b c d e = (
  record { proper = a.0; fitting = b.0; bound = c.0; ray = d.0; empty = e.0 },
  proved_at problem (regions_below problem.catalogue region (cut_of node) ++ regions) nodes a.1 b.1 c.1 d.1 e.1,
)

pub proved_at_each_node : (problem : Meanings) → ProvedAtEachNode problem
proved_at_each_node problem root nodes = (
  (λ covers. (
    walks_map cut_of problem.catalogue (IsProvedAt problem) (IsProperAt problem.catalogue) (λ region node at. at.proper) (root ∷ []) nodes covers,
    walks_map cut_of problem.catalogue (IsProvedAt problem) (DoFitAt problem) (λ region node at. at.fitting) (root ∷ []) nodes covers,
    walks_map cut_of problem.catalogue (IsProvedAt problem) (IsBoundAt problem) (λ region node at. at.bound) (root ∷ []) nodes covers,
    walks_map cut_of problem.catalogue (IsProvedAt problem) (IsRayAt problem) (λ region node at. at.ray) (root ∷ []) nodes covers,
    walks_map cut_of problem.catalogue (IsProvedAt problem) (IsEmptyAt problem) (λ region node at. at.empty) (root ∷ []) nodes covers,
  )),
  (λ (proper, fitting, bounds, rays, empty). proved_at problem (root ∷ []) nodes proper fitting bounds rays empty),
)
