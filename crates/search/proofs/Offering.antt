-- What is offered within a root, and what improvements make of a node.
use Rattle.std.proofs.Common.{◌≡◌, ℕ, zero, suc, ◌+◌, List, [], ◌∷◌, ◌++◌, Bool, true, false, IsTrue, length, take, get_or, ◌<◌}
use Rattle.std.proofs.Common.{Option, Some, None, ◌⊎◌, inl, inr, refl, sym, ◌∙◌, ap, subst, arith}
use Rattle.std.proofs.lemmas.Int.{ints}
use Rattle.branch_tree.specs.Claims.{CostedPicks}
use Rattle.branch_tree.specs.declared.multipliers.Entry.{Entry}
use Rattle.branch_tree.specs.Meanings.{DoFitFor, Meanings, IsRelaxation}
use Rattle.branch_tree.specs.Regions.{are_in}
use Rattle.search.specs.declared.work.Work.{Work}
use Rattle.improvers.specs.declared.improver.Improvement.{Improvement}
use Rattle.search.specs.Improvements.{AreImproved, AreProposed, AreTried, IsProposed, IsUsedUp}
use Rattle.search.specs.Nodes.{IsSubregion}
use Rattle.search.specs.NodesInWork.{IsConsidered, is_open_work}
use Rattle.search.specs.Offers.{HasCheaperIn, IsOffered}

-- what is offered in a region of the root is offered in the root
pub offered_within : (problem : Meanings) (root region : List (List Bool)) (old new : Option CostedPicks) → IsSubregion root region → IsOffered problem region old new → IsOffered problem root old new
offered_within problem root region old new within offered = record {
  no_dearer = offered.no_dearer;
  either = elim offered.either as (λ _. (new ≡ old) ⊎ HasCheaperIn problem root old new) [
    | inl same ↦ inl same
    | inr has ↦ inr (widened new has)
  ];
}
  where
    widened : (best : Option CostedPicks) → HasCheaperIn problem region old best → HasCheaperIn problem root old best
    widened None has = has
    widened (Some plan) has = (record { inside = within plan.picks has.0.inside; solution = has.0.solution; cost = has.0.cost }, has.1)

-- a solution in the root follows, and is one for each trip
pub solution_follows : (problem : Meanings) (root : List (List Bool)) (picks : List ℕ) → IsRelaxation problem → IsTrue (are_in picks root) → problem.IsSolution picks → problem.Follow picks
solution_follows problem root picks relaxation inside solution = relaxation.near_follow picks root (relaxation.solution_near picks root solution inside)

-- one more of the picks that are proposed
pub proposed_next : (problem : Meanings) (root : List (List Bool)) (first : List (List ℕ)) (picks : List ℕ) (before middle after : Option CostedPicks) →
    AreProposed problem root first before middle → IsProposed problem root picks middle after → AreProposed problem root (first ++ picks ∷ []) before after
proposed_next problem root [] picks before middle after same next = (after, subst (λ best. IsProposed problem root picks best after) same next, refl)
proposed_next problem root (one ∷ first) picks before middle after were next = (were.0, were.1, proposed_next problem root first picks were.0 middle after were.2 next)

pub proposed_to : (problem : Meanings) (root : List (List Bool)) (proposed : List (List ℕ)) (place : ℕ) (picks : List ℕ) (before middle after : Option CostedPicks) → place < length proposed →
    picks ≡ get_or proposed place picks → AreProposed problem root (take place proposed) before middle → IsProposed problem root picks middle after →
    AreProposed problem root (take (place + 1) proposed) before after
proposed_to problem root proposed place picks before middle after inside here were next =
    let longer : take (place + 1) proposed ≡ take place proposed ++ picks ∷ [] = taken_next proposed place picks inside here in
    subst (λ list. AreProposed problem root list before after) (sym longer) (proposed_next problem root (take place proposed) picks before middle after were next)
  where
    taken_next : (list : List (List ℕ)) (place : ℕ) (picks : List ℕ) → place < length list → picks ≡ get_or list place picks → take (place + 1) list ≡ take place list ++ picks ∷ []
    taken_next [] place picks inside here = absurd (omega (arith, inside))
    taken_next (one ∷ list) zero picks inside here = ap (λ first. first ∷ []) (sym here)
    taken_next (one ∷ list) (suc place) picks inside here =
        let next : suc place + 1 ≡ suc (place + 1) = omega arith in
        ap (λ n. take n (one ∷ list)) next ∙ ap (λ rest. one ∷ rest) (taken_next list place picks (omega (arith, inside)) here)

-- one more improvement that was used while the node was open
pub improved_next : (problem : Meanings) (root : List (List Bool)) (attempts : ℕ) (improvement : Improvement) (first middle last : Option CostedPicks) (before work after : Work) →
    AreImproved problem root attempts first middle before work → is_open_work middle work ≡ true → IsUsedUp problem root improvement middle last work after →
    AreImproved problem root (attempts + 1) first last before after
improved_next problem root attempts improvement first middle last before work after were opens used =
    let next : suc attempts ≡ attempts + 1 = omega arith in
    let all : AreImproved problem root (suc attempts) first last before after = (middle, work, were, opens, (improvement, used)) in
    subst (λ (n : ℕ). AreImproved problem root n first last before after) next all

-- multipliers that were to be tried were
pub tried_by : (problem : Meanings) (multipliers : Option (List Entry)) (entries : List Entry) (earlier best : Option CostedPicks) (before after : Work) → multipliers ≡ Some entries → DoFitFor problem entries →
    is_open_work earlier before ≡ true → IsConsidered problem best entries before after → AreTried problem multipliers earlier best before after
tried_by problem multipliers entries earlier best before after there fit opens considered = record {
  considered = λ others due. let same : entries ≡ others = let both : Some entries ≡ Some others = sym there ∙ due.there in cc in
      subst (λ xs. IsConsidered problem best xs before after) same considered;
  left = λ never. absurd (never entries (record { there = there; fit = fit; left_open = opens }));
}
