-- What the rest of a day is made of: the planned compositions by number, the root region, the changes and the plan.
use Rattle.std.specs.Prelude.{ℕ, ◌≡◌, ◌<◌, List, Bool, length, get_or}
use Rattle.price_bound.specs.declared.changes.Change.{Change}
use Rattle.replan.specs.Disturbances.{Disturbed, trips_later}
use Rattle.replan.specs.Laws.{IsUnderWay}
use Rattle.replan.specs.RestsOfDays.{changes_of, past_root, plan_later, planned_comp}

-- there is a composition for each trip of the later day: the one that was planned
pub record ArePlanned (disturbed : Disturbed) (picks : List ℕ) : Type 0 where
  pub trips : length picks ≡ trips_later disturbed
  pub are : (t : ℕ) → t < trips_later disturbed → get_or picks t 0 ≡ planned_comp disturbed t

-- the root region, the changes and the plan so far of a disturbed day
pub record IsRestOf (disturbed : Disturbed) (root : List (List Bool)) (changes : List Change)
    (earlier : List (List ℕ)) : Type 0 where
  pub under_way : IsUnderWay disturbed
  pub root_is : root ≡ past_root disturbed
  pub changes_are : changes ≡ changes_of disturbed
  pub earlier_is : earlier ≡ plan_later disturbed
