-- The least priced value over the picks that are near a region, and which picks are chosen for it.
use Rattle.std.specs.Prelude.{ℕ, ◌≡◌, ◌<◌, ◌≤◌, List, map, get_or, Bool, IsTrue, ◌⊎◌, ℤ, pos, ◌≤ℤ◌, ◌<ℤ◌}
use Rattle.compositions.specs.Catalogue.{is_lower}
use Rattle.branch_tree.specs.declared.multipliers.Entry.{Entry}
use Rattle.branch_tree.specs.declared.relaxation.BoundAnswer.{BoundAnswer}
use Rattle.branch_tree.specs.declared.relaxation.BoundAnswer.TheVariants.{Empty, Value}
use Rattle.branch_tree.specs.declared.relaxation.Settled.{Settled}
use Rattle.branch_tree.specs.declared.relaxation.Settled.TheVariants.{Costs, Broken}
use Rattle.branch_tree.specs.declared.relaxation.Weight.{Weight}
use Rattle.branch_tree.specs.Entries.{AreSlackEntries, value_at}
use Rattle.branch_tree.specs.Meanings.{Meanings, IsBroken, priced}

-- no picks are near the region
abbrev pub IsEmpty : Meanings → List (List Bool) → Type 0
IsEmpty problem region = (picks : List ℕ) → problem.AreNear picks region → ⊥

-- the compositions of picks, read in the problem's order
abbrev pub in_order : Meanings → List ℕ → List ℕ
in_order problem picks = map (λ trip. get_or picks trip 0) problem.order

-- picks of one value come before others: the value is lower, or it is the same and the list of compositions comes first
abbrev pub Precedes : Meanings → ℤ → List ℕ → ℤ → List ℕ → Type 0
Precedes problem value picks other others = (value <ℤ other) ⊎ ((value ≡ other) ×
    IsTrue (is_lower (in_order problem picks) (in_order problem others)))

-- the first of the picks that are near a region, by their priced values and then by their compositions in order
pub record IsChoice (problem : Meanings) (region : List (List Bool)) (multipliers : List Entry) (weight : Weight)
    (best : List ℕ) : Type 0 where
  pub near : problem.AreNear best region
  pub first : (picks : List ℕ) → problem.AreNear picks region → (picks ≡ best) ⊎
      Precedes problem (priced problem multipliers weight best) best (priced problem multipliers weight picks) picks

-- the chain value of a region: some near picks have it, and no near picks have a lower one
pub record IsChainValue (problem : Meanings) (region : List (List Bool)) (multipliers : List Entry) (weight : Weight)
    (value : ℤ) : Type 0 where
  pub picks : List ℕ
  pub near : problem.AreNear picks region
  pub reached : priced problem multipliers weight picks ≡ value
  pub least : (others : List ℕ) → problem.AreNear others region → value ≤ℤ priced problem multipliers weight others

-- what a bound says of a region: nothing is near it, and the picks stay as they were; or its chain value, and the picks
-- are the choice for it
abbrev pub IsBound : Meanings → List (List Bool) → List Entry → Weight → BoundAnswer → List ℕ → List ℕ → Type 0
IsBound problem region multipliers weight Empty old new = IsEmpty problem region × (new ≡ old)
IsBound problem region multipliers weight (Value value) old new =
    IsChoice problem region multipliers weight new × (priced problem multipliers weight new ≡ value.0)

-- what settling says of picks: they are a solution of this cost; or none, and there is a slack of this sign at this
-- index
abbrev pub IsSettled : Meanings → List ℕ → Settled → Type 0
IsSettled problem picks (Costs cost) = problem.IsSolution picks × (problem.cost picks ≡ cost.0)
IsSettled problem picks (Broken index sign) =
    (problem.IsSolution picks → ⊥) × IsBroken problem picks (problem.broken picks) ×
    ((problem.broken picks).index ≡ index) × ((problem.broken picks).value ≡ sign)

-- exactly the slacks of picks that are not 0, by rising index
pub record AreSlacks (problem : Meanings) (picks : List ℕ) (entries : List Entry) : Type 0 where
  pub listed : AreSlackEntries entries
  pub below : (index : ℕ) → index < problem.indices → value_at entries index ≡ problem.slack picks index
  pub beyond : (index : ℕ) → problem.indices ≤ index → value_at entries index ≡ pos 0
