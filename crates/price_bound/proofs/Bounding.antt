-- What is found along the chains is the bound of the region.
use Rattle.std.proofs.Common.{◌≡◌, ℕ, List, length, refl, sym, ◌∙◌, ◌+ℤ◌}
use Rattle.rail_base.specs.declared.numbers.Money.{Money}
use Rattle.timetable.specs.Accepted.{AreLinks}
use Rattle.timetable.specs.Chains.{AreChains, chains_of}
use Rattle.transitions.specs.Edges.{AreGraphs}
use Rattle.branch_tree.specs.Bounds.{IsBound}
use Rattle.branch_tree.specs.declared.relaxation.BoundAnswer.TheVariants.{Empty, Value}
use Rattle.branch_tree.specs.Meanings as meanings
use Rattle.price_bound.specs.ChainStages.{Priced, AreFirstPaths}
use Rattle.price_bound.specs.FirstPaths.{LacksPath}
use Rattle.price_bound.specs.Regrouped.{constant_of}
use Rattle.price_bound.proofs.Regrouped.{IsPricedBy}
use Rattle.price_bound.proofs.PathChoice.{choice, empty, value_is}

module _ (problem : meanings.Meanings) (priced : Priced) (is : IsPricedBy problem priced) (links : AreLinks priced.day) (graphs : AreGraphs priced.day priced.graphs)
    (chains : AreChains priced.day (chains_of priced.day)) (over : length priced.region ≡ length priced.day.trips) where
  -- the picks that are found are the choice, and the value is their priced value
  pub found_bound : (best old : List ℕ) (value total : Money) → length best ≡ length priced.day.trips → AreFirstPaths priced (chains_of priced.day) best value.0
      → total.0 ≡ constant_of priced.day priced.entries +ℤ value.0 → IsBound problem priced.region priced.entries priced.weight (Value total) old best
  found_bound best old value total long first sum = (
    choice problem priced is links graphs chains over best long value.0 first,
    value_is problem priced is links graphs chains over best long value.0 first ∙ sym sum,
  )

  -- where a chain has no path, nothing is near
  pub none_bound : (old : List ℕ) → LacksPath priced → IsBound problem priced.region priced.entries priced.weight Empty old old
  none_bound old lacks = (empty problem priced is links graphs chains over lacks.number lacks.chain lacks.at lacks.none, refl)
