-- What holds of every cut, tree and relaxation.
use Rattle.std.specs.Prelude.{ℕ, ◌+◌, ◌*◌, ◌<◌, ◌≤◌, ◌≡◌, ◌↔◌, None, List, [], ◌∷◌, ◌++◌, length, get_or, set, Bool}
use Rattle.std.specs.Prelude.{true, not, ◌&&◌, ◌==◌, IsTrue, if◌then◌else◌, ℤ, pos, ◌≤ℤ◌, ◌<ℤ◌, All}
use Rattle.rail_base.specs.declared.numbers.Money.{Money}
use Rattle.timetable.specs.Accepted.{IsSoundDay}
use Rattle.timetable.specs.Day.{Day}
use Rattle.timetable.specs.Compositions.{compositions_of}
use Rattle.timetable.specs.Picks.{IsSolution}
use Rattle.branch_tree.specs.declared.cuts.Cut.{Cut}
use Rattle.branch_tree.specs.declared.cuts.Cut.TheVariants.{Only}
use Rattle.branch_tree.specs.declared.cuts.Side.{Side}
use Rattle.branch_tree.specs.declared.cuts.Side.TheVariants.{Left, Right}
use Rattle.branch_tree.specs.declared.multipliers.Entry.{Entry}
use Rattle.branch_tree.specs.declared.relaxation.BoundAnswer.TheVariants.{Value}
use Rattle.branch_tree.specs.declared.relaxation.Weight.{Weight}
use Rattle.branch_tree.specs.declared.relaxation.Weight.TheVariants.{Cost, NoCost}
use Rattle.branch_tree.specs.declared.tree.Node.{Node}
use Rattle.branch_tree.specs.Bounds.{IsBound, IsChainValue, IsEmpty}
use Rattle.branch_tree.specs.Claims.{CostsAtLeast, HasNoSolution, Conclusion, IsConcluded, IsProved, IsProvedAt}
use Rattle.branch_tree.specs.Claims.{DoFitAt, IsBoundAt, IsRay, IsRayAt, IsEmptyAt, IsNotEvident}
use Rattle.branch_tree.specs.Cuts.{trip_of, is_on, side_of, IsProper}
use Rattle.branch_tree.specs.Entries.{DoFit}
use Rattle.branch_tree.specs.Meanings.{Meanings, priced}
use Rattle.branch_tree.specs.Regions.{are_in, alone, choices_of, has, set_at, root_of, IsFilled, IsOver, IsSingle}
use Rattle.branch_tree.specs.Sets.{size_of}
use Rattle.branch_tree.specs.Trees.{Covers, IsProperAt, IsSingleAt, IsWhole, branchings_of, cut_of, leaves_in}
use Rattle.branch_tree.specs.Trees.{nodes_in, regions_left}

-- A side of a cut has what the region has, less what is on the other side in the set of the cut's trip.
abbrev pub CutsKeep : Type 0
CutsKeep = (catalogue : List (List ℕ)) (cut : Cut) (side : Side) (region : List (List Bool)) (trip comp : ℕ) →
    trip_of cut < length region → has (side_of catalogue cut side region) trip comp ≡
    (has region trip comp && (if trip == trip_of cut then is_on catalogue cut side comp else true))

-- picks of a region are on exactly one side of a cut, the one on which the pick of its trip is, and picks on a side are
-- in the region
pub record IsDivided (catalogue : List (List ℕ)) (cut : Cut) (region : List (List Bool)) (picks : List ℕ) : Type 0 where
  pub one : IsTrue (are_in picks region) →
      are_in picks (side_of catalogue cut Left region) ≡ not (are_in picks (side_of catalogue cut Right region))
  pub which : (side : Side) → IsTrue (are_in picks region) →
      are_in picks (side_of catalogue cut side region) ≡ is_on catalogue cut side (get_or picks (trip_of cut) 0)
  pub inside : (side : Side) → IsTrue (are_in picks (side_of catalogue cut side region)) → IsTrue (are_in picks region)

-- Picks are in a region exactly where there is one for each trip, and each is in its trip's set.
abbrev pub PicksLieByTrip : Type 0
PicksLieByTrip = (picks : List ℕ) (region : List (List Bool)) →
    IsTrue (are_in picks region) ↔ ((length picks ≡ length region) ×
    ((trip : ℕ) → trip < length region → IsTrue (has region trip (get_or picks trip 0))))

-- A cut of a trip of the region divides the picks of the region.
abbrev pub CutsDivide : Type 0
CutsDivide = (catalogue : List (List ℕ)) (cut : Cut) (region : List (List Bool)) (picks : List ℕ) →
    trip_of cut < length region → IsDivided catalogue cut region picks

-- A set that is put back after a cut makes the region what it was.
abbrev pub CutsAreUndone : Type 0
CutsAreUndone = (catalogue : List (List ℕ)) (cut : Cut) (side : Side) (region : List (List Bool)) →
    set (side_of catalogue cut side region) (trip_of cut) (set_at region (trip_of cut)) ≡ region

-- how many leaves have a region with these picks
abbrev pub leaves_with : {N : Type 0} → List ℕ → List (List (List Bool) × N) → ℕ
leaves_with picks [] = 0
leaves_with picks (leaf ∷ leaves) = (if are_in picks leaf.0 then 1 else 0) + leaves_with picks leaves

-- Where every cut is proper, picks of the root are in the region of exactly one leaf.
abbrev pub LeavesCover : Type 0
LeavesCover = (catalogue : List (List ℕ)) (root : List (List Bool)) (nodes : List Node) (picks : List ℕ) →
    Covers catalogue (IsProperAt catalogue) root nodes → IsTrue (are_in picks root) →
    leaves_with picks (leaves_in cut_of catalogue (root ∷ []) nodes) ≡ 1

-- A fact holds throughout a tree exactly where the nodes are one whole tree and the fact holds of each node in its
-- region.
abbrev pub CoversEach : (List (List Bool) → Node → Type 0) → Type 0
CoversEach P = (catalogue : List (List ℕ)) (root : List (List Bool)) (nodes : List Node) →
    Covers catalogue P root nodes ↔
    (IsWhole nodes × All (λ placed. P placed.0 placed.1) (nodes_in cut_of catalogue (root ∷ []) nodes))

-- A leaf may be replaced by the nodes of a tree over its region.
abbrev pub LeavesGrow : (List (List Bool) → Node → Type 0) → Type 0
LeavesGrow P = (catalogue : List (List ℕ)) (root region : List (List Bool)) (left : List (List (List Bool)))
    (before nodes after : List Node) (leaf : Node) →
    cut_of leaf ≡ None → regions_left cut_of catalogue (root ∷ []) before ≡ region ∷ left →
    Covers catalogue P root (before ++ leaf ∷ after) → Covers catalogue P region nodes →
    Covers catalogue P root (before ++ nodes ++ after)

-- fewer branches than picks of the root; and where they are one fewer, each leaf has one composition for each trip
pub record AreFewBranches (catalogue : List (List ℕ)) (root : List (List Bool)) (nodes : List Node) : Type 0 where
  pub fewer : branchings_of nodes + 1 ≤ choices_of root
  pub single : choices_of root ≤ branchings_of nodes + 1 → Covers catalogue IsSingleAt root nodes

-- Where every cut is proper and each trip of the root has a composition, a tree has fewer branches than its root has
-- picks.
abbrev pub ProperCutsEnd : Type 0
ProperCutsEnd = (catalogue : List (List ℕ)) (root : List (List Bool)) (nodes : List Node) →
    Covers catalogue (IsProperAt catalogue) root nodes → IsFilled root → AreFewBranches catalogue root nodes

-- The region of a day is over its trips and its catalogue, and so is each side of a cut of a region that is.
abbrev pub RootsAreOver : Type 0
RootsAreOver = (day : Day) → IsOver (length day.trips) (compositions_of day) (root_of day)

-- In the region of an accepted day each trip has some composition.
abbrev pub RootsAreFilled : Type 0
RootsAreFilled = (day : Day) → IsSoundDay day → IsFilled (root_of day)

-- Picks that are a solution are in that region.
abbrev pub SolutionsLieInRoots : Type 0
SolutionsLieInRoots = (day : Day) (picks : List ℕ) → IsSoundDay day → IsSolution day picks →
    IsTrue (are_in picks (root_of day))

abbrev pub SidesAreOver : Type 0
SidesAreOver = (trips : ℕ) (catalogue other : List (List ℕ)) (cut : Cut) (side : Side) (region : List (List Bool)) →
    IsOver trips catalogue region → IsOver trips catalogue (side_of other cut side region)

-- Each side of a proper cut of a region in which each trip has some composition is such a region.
abbrev pub SidesAreFilled : Type 0
SidesAreFilled = (catalogue : List (List ℕ)) (cut : Cut) (side : Side) (region : List (List Bool)) →
    IsProper catalogue region cut → IsFilled region → IsFilled (side_of catalogue cut side region)

-- Where a trip has more than one composition, the cut of one of them alone is proper.
abbrev pub SomeCutsAreProper : Type 0
SomeCutsAreProper = (catalogue : List (List ℕ)) (region : List (List Bool)) (trip comp : ℕ) →
    trip < length region → comp < length catalogue → IsTrue (has region trip comp) →
    1 < size_of (set_at region trip) → IsProper catalogue region (Only trip comp)

-- A whole tree has one leaf more than branches.
abbrev pub LeavesExceedBranches : Type 0
LeavesExceedBranches = (nodes : List Node) → IsWhole nodes → length nodes ≡ 2 * branchings_of nodes + 1

-- weak duality: under multipliers that fit, a solution is priced at its cost or lower, and at 0 or lower without cost
pub record IsPricedLow (problem : Meanings) (picks : List ℕ) (multipliers : List Entry) : Type 0 where
  pub with_cost : priced problem multipliers Cost picks ≤ℤ problem.cost picks
  pub without_cost : priced problem multipliers NoCost picks ≤ℤ pos 0

abbrev pub SolutionsArePricedLow : Meanings → Type 0
SolutionsArePricedLow problem = (picks : List ℕ) (multipliers : List Entry) →
    problem.IsSolution picks → DoFit problem.indices problem.free_from multipliers →
    IsPricedLow problem picks multipliers

-- The value that a bound answers is the chain value.
abbrev pub BoundsAreChainValues : Meanings → Type 0
BoundsAreChainValues problem = (region : List (List Bool)) (multipliers : List Entry) (weight : Weight)
    (value : Money) (old new : List ℕ) →
    IsBound problem region multipliers weight (Value value) old new →
    IsChainValue problem region multipliers weight value.0

-- A region has at most one chain value, and none where nothing is near it.
abbrev pub ChainValuesAreOne : Meanings → Type 0
ChainValuesAreOne problem = (region : List (List Bool)) (multipliers : List Entry) (weight : Weight) (value other : ℤ) →
    IsChainValue problem region multipliers weight value → IsChainValue problem region multipliers weight other →
    value ≡ other

abbrev pub EmptyHasNoChainValue : Meanings → Type 0
EmptyHasNoChainValue problem = (region : List (List Bool)) (multipliers : List Entry) (weight : Weight) (value : ℤ) →
    IsEmpty problem region → IsChainValue problem region multipliers weight value → ⊥

-- No solution in a region costs less than its chain value under multipliers that fit.
abbrev pub ChainValuesBound : Meanings → Type 0
ChainValuesBound problem = (region : List (List Bool)) (multipliers : List Entry) (value : ℤ) →
    DoFit problem.indices problem.free_from multipliers → IsChainValue problem region multipliers Cost value →
    CostsAtLeast problem region value

-- A region with nothing near it has no solution, and neither has one whose chain value without cost is positive.
abbrev pub EmptyHasNoSolution : Meanings → Type 0
EmptyHasNoSolution problem = (region : List (List Bool)) → IsEmpty problem region → HasNoSolution problem region

abbrev pub RaysHaveNoSolution : Meanings → Type 0
RaysHaveNoSolution problem = (region : List (List Bool)) (multipliers : List Entry) →
    DoFit problem.indices problem.free_from multipliers → IsRay problem region multipliers →
    HasNoSolution problem region

-- why the region of picks that follow and are no solution, taken alone, has no solution: the multiplier that is named
-- for them fits, and the chain value under it without cost is positive, where picks are near at all
pub record HasNamedRay (problem : Meanings) (picks : List ℕ) : Type 0 where
  pub fits : DoFit problem.indices problem.free_from (problem.broken picks ∷ [])
  pub positive : (value : ℤ) → IsChainValue problem (alone picks) (problem.broken picks ∷ []) NoCost value →
      pos 0 <ℤ value

abbrev pub BrokenPicksHaveRays : Meanings → Type 0
BrokenPicksHaveRays problem =
    (picks : List ℕ) → problem.Follow picks → (problem.IsSolution picks → ⊥) → HasNamedRay problem picks

-- A region with one composition for each trip has an evident end.
abbrev pub SinglePicksAreEvident : Meanings → Type 0
SinglePicksAreEvident problem = (region : List (List Bool)) → IsSingle region → IsNotEvident problem region → ⊥

-- What a proved claim says of each node is said of all nodes throughout the tree.
abbrev pub ProvedAtEachNode : Meanings → Type 0
ProvedAtEachNode problem = (root : List (List Bool)) (nodes : List Node) →
    Covers problem.catalogue (IsProvedAt problem) root nodes ↔
    (Covers problem.catalogue (IsProperAt problem.catalogue) root nodes ×
    Covers problem.catalogue (DoFitAt problem) root nodes × Covers problem.catalogue (IsBoundAt problem) root nodes ×
    Covers problem.catalogue (IsRayAt problem) root nodes × Covers problem.catalogue (IsEmptyAt problem) root nodes)

-- What is proved is true of all solutions in the root.
abbrev pub ProvedIsConcluded : Meanings → Type 0
ProvedIsConcluded problem = (root : List (List Bool)) (conclusion : Conclusion) (branchings : ℕ) (nodes : List Node) →
    IsProved problem root conclusion branchings nodes → IsConcluded problem root conclusion
