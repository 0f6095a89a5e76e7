-- The best solution so far, after solutions of a region were offered.
use Rattle.std.specs.Prelude.{◌≡◌, ◌⊎◌, List, Bool, true, ℤ, Option, Some, None}
use Rattle.branch_tree.specs.Claims.{CostedPicks, IsPlanIn, is_below}
use Rattle.branch_tree.specs.Meanings.{Meanings}

-- where there is a plan, it is a solution in the region
abbrev pub HasPlanIn : Meanings → List (List Bool) → Option CostedPicks → Type 0
HasPlanIn problem region None = Unit {0}
HasPlanIn problem region (Some plan) = IsPlanIn problem region plan

-- there is a plan, a solution in the region, and it costs less than the old one, where there was one
abbrev pub HasCheaperIn : Meanings → List (List Bool) → Option CostedPicks → Option CostedPicks → Type 0
HasCheaperIn problem region old None = ⊥
HasCheaperIn problem region old (Some plan) = IsPlanIn problem region plan × (is_below plan.cost old ≡ true)

-- the new best one is the old one, or costs less and lies in the region; so it costs no more
pub record IsOffered (problem : Meanings) (region : List (List Bool)) (old new : Option CostedPicks) : Type 0 where
  pub no_dearer : (bound : ℤ) → is_below bound new ≡ true → is_below bound old ≡ true
  pub either : (new ≡ old) ⊎ HasCheaperIn problem region old new
