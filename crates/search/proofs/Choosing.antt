-- A node that can be branched has a proper cut, its own.
use Rattle.std.proofs.Common.{◌≡◌, ℕ, ◌<◌, ◌≤◌, List, [], length, get_or, slice_get, Some, Bool, true, IsTrue, subst}
use Rattle.std.proofs.Common.{ap, sym, arith}
use Rattle.std.proofs.lemmas.List.{get_or_default}
use Rattle.std.proofs.lemmas.Option.{get_or_from_slice_get}
use Rattle.branch_tree.specs.declared.cuts.Cut.{Cut}
use Rattle.branch_tree.specs.declared.cuts.Cut.TheVariants.{Only}
use Rattle.branch_tree.specs.Cuts.{IsProper}
use Rattle.branch_tree.specs.Regions.{are_in, has, set_at, IsSingle}
use Rattle.branch_tree.specs.Sets.{size_of}
use Rattle.branch_tree.proofs.Lying.{picks_lie_by_trip}
use Rattle.branch_tree.proofs.Over.{some_cuts_are_proper}
use Rattle.branch_tree.proofs.Settling.{member_counts}
use Rattle.search.specs.declared.nodes.PendingNode.{PendingNode}
use Rattle.search.specs.Nodes.{IsFirstDivisible, IsOwnCut}

-- a region with picks is single where no trip has more than one composition
pub is_single : (picks : List ℕ) (region : List (List Bool)) → IsTrue (are_in picks region) → ((trip : ℕ) → trip < length region → size_of (set_at region trip) ≤ 1) → IsSingle region
is_single picks region inside few = λ trip none below.
    let listed : has region trip (get_or picks trip 0) ≡ true = ((picks_lie_by_trip picks region).0 inside).1 trip below in
    let some : 1 ≤ size_of (set_at region trip) = member_counts (set_at region trip) (get_or picks trip 0) listed in
    let one : size_of (set_at region trip) ≡ 1 = omega (arith, few trip below) in
    subst (λ members. size_of members ≡ 1) (get_or_default region trip [] none below) one

pub length-inside : (picks : List ℕ) (region : List (List Bool)) → IsTrue (are_in picks region) → length picks ≡ length region
length-inside picks region inside = ((picks_lie_by_trip picks region).0 inside).0

-- the cut of a trip with more than one composition, by its pick
pub cut_by_pick : (catalogue : List (List ℕ)) (picks : List ℕ) (region : List (List Bool)) (trip comp : ℕ) → IsTrue (are_in picks region) →
    ((trip comp : ℕ) → IsTrue (has region trip comp) → comp < length catalogue) → trip < length region → 1 < size_of (set_at region trip) → slice_get picks trip ≡ Some comp →
    IsProper catalogue region (Only trip comp)
cut_by_pick catalogue picks region trip comp inside within below more is =
    let pick : get_or picks trip 0 ≡ comp = get_or_from_slice_get picks trip comp 0 is in
    let listed : has region trip comp ≡ true = subst (λ (at : ℕ). has region trip at ≡ true) pick (((picks_lie_by_trip picks region).0 inside).1 trip below) in
    some_cuts_are_proper catalogue region trip comp below (within trip comp listed) listed more

-- where no cut that was proposed is proper, the cut of the first trip that can be divided, by its pick, is the node's own
pub own_by_pick : (catalogue : List (List ℕ)) (node : PendingNode) (trip comp : ℕ) → ((asked : Cut) → node.cut ≡ Some asked → IsProper catalogue node.region asked → ⊥) →
    IsFirstDivisible node.region trip → slice_get node.picks trip ≡ Some comp → IsOwnCut catalogue node (Only trip comp)
own_by_pick catalogue node trip comp none first is = record {
  proposed = λ asked same proper. absurd (none asked same proper);
  other = λ improper. (trip, first, ap (λ (pick : ℕ). Only trip pick) (sym (get_or_from_slice_get node.picks trip comp 0 is)));
}
