-- A day is priced as it is regrouped, with its changes.
use Rattle.std.proofs.Common.{◌≡◌, ℕ, ◌+◌, ◌<◌, List, length, refl, sym, ap, ◌∙◌, arith, pos, ◌+ℤ◌, ◌*ℤ◌}
use Rattle.timetable.specs.Accepted.{AreLinks}
use Rattle.timetable.specs.Cost.{cost_of, link_cost, trip_cost}
use Rattle.timetable.specs.Links.{list_of}
use Rattle.timetable.specs.Lists.{sum_below}
use Rattle.timetable.specs.Picks.{picked}
use Rattle.timetable.proofs.Sums.{sum_add, sum_same}
use Rattle.branch_tree.specs.IntSums.{int_sum}
use Rattle.branch_tree.specs.Meanings.{weighted}
use Rattle.price_bound.specs.ChainStages.{Priced, cost_on}
use Rattle.price_bound.specs.ChangedDays.{AreChanges, added_cost, changed_day, changed_meanings}
use Rattle.price_bound.specs.Changes.{change_cost, changed_cost}
use Rattle.price_bound.specs.FollowingPicks.{pick_of}
use Rattle.price_bound.specs.Slacks.{slack_of}
use Rattle.price_bound.proofs.ChangedCosts.{added_by_trips}
use Rattle.price_bound.proofs.Regrouping.{are_regrouped}
use Rattle.price_bound.proofs.Regrouped.{IsPricedBy}
use Rattle.price_bound.proofs.Solving.{list_picked}

module _ (priced : Priced) (links : AreLinks priced.day) (are : AreChanges priced.day priced.changes) where
  abbrev plain : List ℕ → ℕ → ℕ
  plain picks t = trip_cost priced.day t (list_of (picked priced.day picks) t)

  abbrev change : List ℕ → ℕ → ℕ
  change picks t = change_cost priced.changes t (pick_of picks t)

  abbrev shunts : List ℕ → ℕ
  shunts picks = sum_below (λ l. link_cost priced.day l (picked priced.day picks)) (length priced.day.links)

  one_cost : (picks : List ℕ) → length picks ≡ length priced.day.trips → (t : ℕ) → t < length priced.day.trips
      → cost_on priced t (pick_of picks t) ≡ plain picks t + change picks t
  unfolding changed_cost
  one_cost picks long t lt = ap (λ (n : ℕ). n + change picks t)
      (ap (trip_cost priced.day t) (sym (list_picked priced.day picks t (omega (arith, lt, long)))))

  all_costs : (picks : List ℕ) → length picks ≡ length priced.day.trips
      → sum_below (λ t. cost_on priced t (pick_of picks t)) (length priced.day.trips)
      ≡ sum_below (plain picks) (length priced.day.trips) + added_cost priced.changes picks
  all_costs picks long =
      sum_same (λ t. cost_on priced t (pick_of picks t)) (λ t. plain picks t + change picks t) (length priced.day.trips)
      (one_cost picks long)
      ∙ sum_add (plain picks) (change picks) (length priced.day.trips)
      ∙ ap (λ (n : ℕ). sum_below (plain picks) (length priced.day.trips) + n)
      (added_by_trips priced.changes picks (length priced.day.trips) are.rising are.trips)

  arranged : (trips links added all : ℕ) → all ≡ trips + added → (trips + links) + added ≡ all + links
  arranged trips links added all e = omega (arith, e)

  costs : (picks : List ℕ) → length picks ≡ length priced.day.trips
      → cost_of priced.day (picked priced.day picks) + added_cost priced.changes picks
      ≡ sum_below (λ t. cost_on priced t (pick_of picks t)) (length priced.day.trips) + shunts picks
  unfolding cost_of
  costs picks long = arranged (sum_below (plain picks) (length priced.day.trips)) (shunts picks) (added_cost priced.changes picks)
      (sum_below (λ t. cost_on priced t (pick_of picks t)) (length priced.day.trips)) (all_costs picks long)

  pub day_priced : IsPricedBy (changed_meanings (changed_day priced.day priced.changes)) priced
  day_priced = record {
    order = refl;
    to_day = λ picks near. near;
    from_day = λ picks near. near;
    values = λ picks long.
        ap (λ (n : ℕ). weighted priced.weight (pos n)
        +ℤ int_sum (λ entry. entry.value *ℤ slack_of priced.day picks entry.index) priced.entries) (costs picks long)
        ∙ are_regrouped priced.day (cost_on priced) priced.entries priced.weight picks links long;
  }
