-- Evaluations of a region: what is known of it under multipliers.
use Rattle.std.specs.Prelude.{ℕ, ◌≡◌, ◌<◌, ◌⊎◌, List, [], ◌∷◌, length, Bool, true, false, ℤ, pos, ◌≤ℤ◌, Option}
use Rattle.std.specs.Prelude.{Some, None}
use Rattle.branch_tree.specs.declared.multipliers.Entry.{Entry}
use Rattle.branch_tree.specs.declared.relaxation.Weight.TheVariants.{Cost, NoCost}
use Rattle.branch_tree.specs.declared.tree.Node.{Node}
use Rattle.branch_tree.specs.declared.tree.Node.TheVariants.{RayLeaf, EmptyLeaf}
use Rattle.branch_tree.specs.Bounds.{IsChainValue, IsChoice, IsEmpty}
use Rattle.branch_tree.specs.Claims.{CostedPicks, IsRay, is_below}
use Rattle.branch_tree.specs.Meanings.{Meanings, DoFitFor, priced}
use Rattle.search.specs.declared.evaluation.Ending.{Ending}
use Rattle.search.specs.declared.evaluation.Ending.TheVariants.{Empty, Ray}
use Rattle.search.specs.declared.evaluation.Evaluation.{Evaluation}
use Rattle.search.specs.declared.evaluation.EvaluationEnd.{EvaluationEnd}
use Rattle.search.specs.declared.evaluation.EvaluationEnd.TheVariants.{Ended, Open}

-- why a region has no solution: nothing is near it, or its chain value without cost is positive under multipliers that
-- fit
abbrev pub IsEnding : Meanings → List (List Bool) → Ending → Type 0
IsEnding problem region Empty = IsEmpty problem region
IsEnding problem region (Ray multipliers) = DoFitFor problem multipliers × IsRay problem region multipliers

-- the choice of a region under multipliers that fit, which follows, and its value
pub record IsEvaluated (problem : Meanings) (region : List (List Bool)) (evaluation : Evaluation) : Type 0 where
  pub fits : DoFitFor problem evaluation.multipliers
  pub choice : IsChoice problem region evaluation.multipliers Cost evaluation.picks
  pub follow : problem.Follow evaluation.picks
  pub value : priced problem evaluation.multipliers Cost evaluation.picks ≡ evaluation.value.0

-- the chain value of a region without cost is not positive
pub record HasNoRay (problem : Meanings) (region : List (List Bool)) (multipliers : List Entry) : Type 0 where
  pub value : ℤ
  pub chain_value : IsChainValue problem region multipliers NoCost value
  pub not_positive : value ≤ℤ pos 0

-- picks are no solution, and the multiplier that is named for them does not show that the region has none
pub record LeaveOpen (problem : Meanings) (region : List (List Bool)) (picks : List ℕ) : Type 0 where
  pub no_solution : problem.IsSolution picks → ⊥
  pub no_ray : HasNoRay problem region (problem.broken picks ∷ [])

-- picks are a solution and the best one costs no more, or they leave the region open
abbrev pub AreSettled : Meanings → List (List Bool) → Option CostedPicks → List ℕ → Type 0
AreSettled problem region best picks =
    (problem.IsSolution picks × (is_below (problem.cost picks) best ≡ false)) ⊎ LeaveOpen problem region picks

-- the ray that ends an evaluation: the multiplier that is named for the choice, where the choice is no solution; or,
-- where the choice is settled and shows no ray, the multipliers themselves
abbrev pub IsFirstRay : Meanings → List (List Bool) → List Entry → Option CostedPicks → List ℕ → List Entry → Type 0
IsFirstRay problem region multipliers best picks ray =
    ((problem.IsSolution picks → ⊥) × (ray ≡ problem.broken picks ∷ [])) ⊎
    (AreSettled problem region best picks × (0 < length multipliers) × (ray ≡ multipliers))

-- how the evaluation of a region under multipliers ends: nothing is near the region; the multiplier that is named for
-- the choice, or the multipliers themselves, are a ray; or neither is shown
abbrev pub IsOutcome : Meanings → List (List Bool) → List Entry → Option CostedPicks → EvaluationEnd → Type 0
IsOutcome problem region multipliers best (Ended Empty) = IsEmpty problem region
IsOutcome problem region multipliers best (Ended (Ray ray)) = IsEnding problem region (Ray ray) ×
    ((picks : List ℕ) × IsChoice problem region multipliers Cost picks ×
    IsFirstRay problem region multipliers best picks ray)
IsOutcome problem region multipliers best (Open evaluation) = IsEvaluated problem region evaluation ×
    (evaluation.multipliers ≡ multipliers) × AreSettled problem region best evaluation.picks ×
    (0 < length multipliers → HasNoRay problem region multipliers)

-- what settling picks near a region shows: that the multiplier named for them is a ray, or how they are settled
abbrev pub IsSettledAs : Meanings → List (List Bool) → Option CostedPicks → List ℕ → Option (List Entry) → Type 0
IsSettledAs problem region best picks None = AreSettled problem region best picks
IsSettledAs problem region best picks (Some named) =
    IsEnding problem region (Ray named) × (problem.IsSolution picks → ⊥) × (named ≡ problem.broken picks ∷ [])

-- whether the chain value of a region without cost is positive
abbrev pub IsRayTest : Meanings → List (List Bool) → List Entry → Bool → Type 0
IsRayTest problem region multipliers true = IsRay problem region multipliers
IsRayTest problem region multipliers false = HasNoRay problem region multipliers

-- the leaf that says why a region has no solution
abbrev pub leaf_of : Ending → Node
leaf_of Empty = EmptyLeaf
leaf_of (Ray multipliers) = RayLeaf multipliers
