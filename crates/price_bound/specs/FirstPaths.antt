-- What is found along the chains: first paths of least value, or a chain without any.
use Rattle.std.specs.Prelude.{ℕ, ◌≡◌, List, Option, Some, MatchOption, slice_get, ℤ}
use Rattle.rail_base.specs.declared.numbers.Money.{Money}
use Rattle.timetable.specs.Chains.{chains_of}
use Rattle.price_bound.specs.ChainStages.{Priced, AreFirstPaths, stages_of}
use Rattle.price_bound.specs.Paths.{IsPath}

-- one of the chains has no path
pub record LacksPath (priced : Priced) : Type 0 where
  pub number : ℕ
  pub chain : List ℕ
  pub at : slice_get (chains_of priced.day) number ≡ Some chain
  pub none : (path : List ℕ) (value : ℤ) → IsPath (stages_of priced chain) path value → ⊥

-- what is found: along each chain the first path of least value, with the sum of their values; or nothing, where a
-- chain has no path
abbrev pub AreFound : Priced → Option Money → List ℕ → Type 0
AreFound priced found choice =
    MatchOption found (LacksPath priced) (λ value. AreFirstPaths priced (chains_of priced.day) choice value.0)
