-- As many branchings as the root has choices leave no leaf open.
use Rattle.std.proofs.Common.{◌≡◌, ◌+◌, ◌≤◌, List, [], ◌∷◌, ◌++◌, Bool, true, false, Option, refl, arith}
use Rattle.std.specs.Prelude.{if◌then◌else◌}
use Rattle.branch_tree.specs.declared.tree.Node.{Node}
use Rattle.branch_tree.specs.declared.tree.Node.TheVariants.{Branch, CostLeaf, RayLeaf, EmptyLeaf}
use Rattle.branch_tree.specs.Claims.{EndsInTime, HasOpenLeaf, IsNotEvidentAt, CostedPicks, is_below, open_leaves_of}
use Rattle.branch_tree.specs.Laws.{AreFewBranches}
use Rattle.branch_tree.specs.Meanings.{IsRelaxation, Meanings}
use Rattle.branch_tree.specs.Regions.{IsFilled, choices_of}
use Rattle.branch_tree.specs.Trees.{Covers, IsProperAt, IsSingleAt, Walks, branchings_of, cut_of, regions_below}
use Rattle.branch_tree.proofs.Ending.{proper_cuts_end}
use Rattle.branch_tree.proofs.Settling.{single_picks_are_evident}

module _ (problem : Meanings) (relaxation : IsRelaxation problem) (plan : Option CostedPicks) where
  abbrev NotEvident : List (List Bool) → Node → Type 0
  NotEvident = IsNotEvidentAt problem plan

  -- trees whose leaves have one composition for each trip have no open leaf
  none_open : (regions : List (List (List Bool))) (nodes : List Node)
      → Walks cut_of problem.catalogue IsSingleAt regions nodes → Walks cut_of problem.catalogue NotEvident regions nodes
      → open_leaves_of plan nodes ≡ 0
  none_open regions [] single walks = refl
  none_open [] (node ∷ nodes) single walks = absurd single
  none_open (region ∷ regions) (Branch cut ∷ nodes) single walks =
      let rest = none_open (regions_below problem.catalogue region (cut_of (Branch cut)) ++ regions) nodes single.1 walks.1 in
      omega (arith, rest)
  none_open (region ∷ regions) (CostLeaf bound entries ∷ nodes) single walks =
      by (is_below bound.0 plan) refl (none_open regions nodes single.1 walks.1)
    where
      by : (b : Bool) → is_below bound.0 plan ≡ b → open_leaves_of plan nodes ≡ 0
          → (if b then 1 else 0) + open_leaves_of plan nodes ≡ 0
      by true is rest = absurd (single_picks_are_evident problem relaxation region (single.0 refl) (walks.0 is))
      by false is rest = omega (arith, rest)
  none_open (region ∷ regions) (RayLeaf entries ∷ nodes) single walks =
      let rest = none_open regions nodes single.1 walks.1 in omega (arith, rest)
  none_open (region ∷ regions) (EmptyLeaf ∷ nodes) single walks =
      let rest = none_open regions nodes single.1 walks.1 in omega (arith, rest)

-- where as many branchings were made as the root has choices, less one, no leaf is open
pub enough_leave_none_open : (problem : Meanings) → IsRelaxation problem → (root : List (List Bool)) → IsFilled root
    → (plan : Option CostedPicks) (nodes : List Node)
    → Covers problem.catalogue (IsProperAt problem.catalogue) root nodes → EndsInTime problem root plan nodes
    → choices_of root ≤ branchings_of nodes + 1 → HasOpenLeaf plan nodes → ⊥
enough_leave_none_open problem relaxation root filled plan nodes proper in_time enough some =
    let few : AreFewBranches problem.catalogue root nodes =
    proper_cuts_end problem.catalogue root nodes proper filled in
    let none : open_leaves_of plan nodes ≡ 0 =
    none_open problem relaxation plan (root ∷ []) nodes (few.single enough) in_time.not_evident in
    omega (arith, none, some)
