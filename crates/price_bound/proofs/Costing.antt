-- A table that is filled row by row with costs has the costs of a day.
use Rattle.std.proofs.Common.{◌≡◌, ℕ, ◌+◌, ◌<◌, List, length, get_or, Some, None, ap, sym, ◌∙◌, subst, arith, ℤ, pos, inl, inr}
use Rattle.std.specs.Prelude.{if◌then◌else◌}
use Rattle.std.proofs.lemmas.Bool.{cases_eq}
use Rattle.timetable.specs.Admissible.{is_admissible}
use Rattle.timetable.specs.Compositions.{compositions_of, composition_at}
use Rattle.timetable.specs.Cost.{trip_cost}
use Rattle.timetable.specs.Day.{Day}
use Rattle.price_bound.specs.declared.changes.Change.{Change}
use Rattle.price_bound.specs.Changes.{change_cost, changed_cost}
use Rattle.price_bound.specs.Costs.{AreCostsBelow, AreCostsIn, IsCostOf}
use Rattle.price_bound.specs.Credits.{AreRowsBut, put_in}
use Rattle.price_bound.specs.PriceTables.{HasSize, amount_at}
use Rattle.price_bound.proofs.Crediting.{put_beside, put_here}

-- a cost under some changes is that under others by which the composition costs the same
pub cost_is : (day : Day) (some changes : List Change) (t comp : ℕ) (amount : ℤ) → change_cost some t comp ≡ change_cost changes t comp
    → IsCostOf day some t comp amount → IsCostOf day changes t comp amount
unfolding changed_cost
cost_is day some changes t comp amount same is = record {
  is = is.is ∙ ap (λ (more : ℕ). if is_admissible day t (composition_at day comp)
      then Some (pos (trip_cost day t (composition_at day comp) + more)) else None) same;
  small = is.small;
}

module _ (day : Day) (changes : List Change) where
  -- one cost more
  pub costs_more : (rows columns : ℕ) (table : List (List ℤ)) (t comp : ℕ) (amount : ℤ) → HasSize rows columns table
      → t < rows → comp < columns → AreCostsIn day changes t comp table → IsCostOf day changes t comp amount
      → AreCostsIn day changes t (comp + 1) (put_in t comp amount table)
  costs_more rows columns table t comp amount size below lt done is c before = elim (cases_eq c comp) [
    | inl same ↦ subst (λ (k : ℕ). IsCostOf day changes t k (amount_at (put_in t comp amount table) t k)) (sym same)
        (subst (IsCostOf day changes t comp) (sym (put_here rows columns table size t comp amount below lt)) is)
    | inr differ ↦ subst (IsCostOf day changes t c) (sym (put_beside rows columns table size t comp amount below c differ))
        (done c (omega (arith, before, differ)))
  ]

  -- the costs of one trip more
  pub trips_more : (table new : List (List ℤ)) (trip : ℕ) → AreCostsBelow day changes trip table
      → AreCostsIn day changes trip (length (compositions_of day)) new → AreRowsBut trip table new
      → AreCostsBelow day changes (trip + 1) new
  trips_more table new trip done here others t lt = elim (cases_eq t trip) [
    | inl same ↦ subst (λ (k : ℕ). AreCostsIn day changes k (length (compositions_of day)) new) (sym same) here
    | inr differ ↦ λ comp below.
        subst (λ (row : List ℤ). IsCostOf day changes t comp (get_or row comp (pos 0))) (sym (others t differ))
        (done t (omega (arith, lt, differ)) comp below)
  ]

  -- the costs of a trip under its own changes are those under all
  pub costs_are : (own : List Change) (t comps : ℕ) (table : List (List ℤ)) → ((comp : ℕ) → change_cost own t comp ≡ change_cost changes t comp)
      → AreCostsIn day own t comps table → AreCostsIn day changes t comps table
  costs_are own t comps table same done comp below =
      cost_is day own changes t comp (amount_at table t comp) (same comp) (done comp below)
