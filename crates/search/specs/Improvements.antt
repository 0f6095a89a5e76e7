-- What an improver is shown of a node, and what the improvements that it proposes make of the node and of the best
-- solution.
use Rattle.std.specs.Prelude.{ℕ, zero, suc, ◌≡◌, List, [], ◌∷◌, Bool, true, IsTrue, Option, Some, None, if◌then◌else◌}
use Rattle.branch_tree.specs.declared.multipliers.Entry.{Entry}
use Rattle.branch_tree.specs.Bounds.{AreSlacks}
use Rattle.branch_tree.specs.Claims.{CostedPicks, is_below}
use Rattle.branch_tree.specs.Meanings.{DoFitFor, Meanings}
use Rattle.branch_tree.specs.Regions.{are_in}
use Rattle.improvers.specs.declared.improver.Improvement.{Improvement}
use Rattle.improvers.specs.declared.improver.Incumbent.{Incumbent}
use Rattle.improvers.specs.declared.improver.Seen.{Seen}
use Rattle.search.specs.declared.work.Work.{Work}
use Rattle.search.specs.NodesInWork.{IsConsidered, is_open_work, remembering}

-- Picks were proposed: where they lie in the root and are a solution, they are the best one where they cost less; and
-- else the best one stays.
pub record IsProposed (problem : Meanings) (root : List (List Bool)) (picks : List ℕ)
    (before after : Option CostedPicks) : Type 0 where
  pub taken : IsTrue (are_in picks root) → problem.IsSolution picks →
      after ≡ (if is_below (problem.cost picks) before then Some (record { cost = problem.cost picks; picks = picks })
      else before)
  pub passed : (IsTrue (are_in picks root) → problem.IsSolution picks → ⊥) → after ≡ before

-- picks were proposed one after another
abbrev pub AreProposed : Meanings → List (List Bool) → List (List ℕ) → Option CostedPicks → Option CostedPicks → Type 0
AreProposed problem root [] before after = after ≡ before
AreProposed problem root (picks ∷ others) before after =
    (middle : Option CostedPicks) × IsProposed problem root picks before middle
    × AreProposed problem root others middle after

-- the node is open, and there are multipliers which fit
pub record AreToBeTried (problem : Meanings) (multipliers : Option (List Entry)) (best : Option CostedPicks)
    (work : Work) (entries : List Entry) : Type 0 where
  pub there : multipliers ≡ Some entries
  pub fit : DoFitFor problem entries
  pub left_open : is_open_work best work ≡ true

-- multipliers were proposed: where they are to be tried, the node was evaluated under them, and else it and the best
-- solution are as they were
pub record AreTried (problem : Meanings) (multipliers : Option (List Entry)) (earlier best : Option CostedPicks)
    (before after : Work) : Type 0 where
  pub considered : (entries : List Entry) → AreToBeTried problem multipliers earlier before entries →
      IsConsidered problem best entries before after
  pub left : ((entries : List Entry) → AreToBeTried problem multipliers earlier before entries → ⊥) →
      (after ≡ before) × (best ≡ earlier)

-- an improvement was used: its cut is remembered, its picks were proposed as solutions, and then its multipliers
pub record IsUsedUp (problem : Meanings) (root : List (List Bool)) (improvement : Improvement)
    (earlier best : Option CostedPicks) (before after : Work) : Type 0 where
  pub middle : Option CostedPicks
  pub proposed : AreProposed problem root improvement.picks.items earlier middle
  pub tried : AreTried problem improvement.multipliers middle best (remembering improvement.cut before) after

-- so many improvements were used one after another, each while the node was open
abbrev pub AreImproved : Meanings → List (List Bool) → ℕ → Option CostedPicks → Option CostedPicks → Work → Work
    → Type 0
AreImproved problem root zero earlier best before after = (after ≡ before) × (best ≡ earlier)
AreImproved problem root (suc attempts) earlier best before after =
    (middle : Option CostedPicks) × (work : Work) × AreImproved problem root attempts earlier middle before work ×
    (is_open_work middle work ≡ true) ×
    ((improvement : Improvement) × IsUsedUp problem root improvement middle best work after)

-- the best solution as it is shown to an improver, if there is one
abbrev pub shown_plan : Option Incumbent → Option CostedPicks
shown_plan None = None
shown_plan (Some incumbent) = Some (record { cost = incumbent.cost.0; picks = incumbent.picks.now })

-- what is shown to an improver of a node: its region, what its kept evaluation gave, the slacks of the kept picks, and
-- the best solution
pub record IsSeenOf (problem : Meanings) (number made : ℕ) (plan : Option CostedPicks) (work : Work) (seen : Seen)
    : Type 0 where
  pub node : seen.node ≡ number
  pub attempt : seen.attempt ≡ made
  pub region : seen.region.now ≡ work.region
  pub kept : seen.kept ≡ work.kept.value
  pub multipliers : seen.multipliers.now ≡ work.kept.multipliers
  pub picks : seen.picks.now ≡ work.kept.picks
  pub slacks : AreSlacks problem work.kept.picks seen.slacks.now
  pub best : shown_plan seen.best ≡ plan
  pub free_from : seen.free_from ≡ problem.free_from
