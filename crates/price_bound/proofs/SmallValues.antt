-- The slacks and the priced values of picks that follow are small.
use Rattle.std.proofs.Common.{◌≤◌, ◌+◌, ◌*◌, ℕ, List, [], ◌∷◌, length, get_or, Bool, true, false, Option, Some, None}
use Rattle.std.proofs.Common.{slice_get, unwrap_or, arith, pos, neg_ℤ, ◌-ℤ◌, ◌*ℤ◌}
use Rattle.std.specs.Prelude.{All, option_map, unsigned_abs, ◌==◌, if◌then◌else◌}
use Rattle.std.proofs.Math.Nat.{suc-mul}
use Rattle.std.proofs.lemmas.Int.{ints}
use Rattle.std.proofs.lemmas.List.Elements.{All-head, All-tail}
use Rattle.rail_base.specs.declared.limits.TheConstants.{MAX_CHANGE, MAX_MULTIPLIER, MAX_TRIPS}
use Rattle.timetable.specs.Accepted.{IsSoundDay}
use Rattle.timetable.specs.declared.day.indices.Place.{Place}
use Rattle.timetable.specs.declared.day.indices.Place.TheVariants.{Lambda, Mu, Sigma}
use Rattle.timetable.specs.declared.day.records.Handover.{Handover}
use Rattle.timetable.specs.Cost.{cost_of}
use Rattle.timetable.specs.Day.{Day, wanted_of}
use Rattle.timetable.specs.Handovers.{handovers_of}
use Rattle.timetable.specs.Indices.{places_of}
use Rattle.timetable.specs.Lists.{sum_below}
use Rattle.timetable.specs.Minutes.{minutes_of}
use Rattle.timetable.specs.Picks.{ArePicks, picked}
use Rattle.timetable.specs.Starts.{start_of}
use Rattle.inventory.specs.Counts.{all_given, all_taken, ready_until, taken_until}
use Rattle.inventory.proofs.Holds.{few_start}
use Rattle.branch_tree.specs.declared.multipliers.Entry.{Entry}
use Rattle.branch_tree.specs.declared.relaxation.Weight.{Weight}
use Rattle.branch_tree.specs.declared.relaxation.Weight.TheVariants.{Cost, NoCost}
use Rattle.branch_tree.specs.IntSums.{int_sum}
use Rattle.branch_tree.specs.Meanings.{slack_sum, weighted}
use Rattle.cost_model.specs.declared.costs.TheConstants.{MAX_DAY_COST}
use Rattle.price_bound.specs.declared.changes.Change.{Change}
use Rattle.price_bound.specs.declared.sizes.TheConstants.{MAX_SLACK}
use Rattle.price_bound.specs.ChangedDays.{AreChanges, added_cost, changed_day, changed_meanings}
use Rattle.price_bound.specs.Changes.{change_cost}
use Rattle.price_bound.specs.DayMeanings.{meanings_of}
use Rattle.price_bound.specs.FollowingPicks.{Follow, pick_of}
use Rattle.price_bound.specs.Sizes.{ChangedSlacksAreSmall, ChangedValuesAreSmall, SlacksAreSmall, ValuesAreSmall}
use Rattle.price_bound.specs.Slacks.{handover_slack, is_part, one_if, slack_at, slack_of}
use Rattle.price_bound.proofs.ChangedCosts.{added_by_trips}
use Rattle.price_bound.proofs.FewCosts.{day_costs, summed}
use Rattle.price_bound.proofs.FewGiven.{few_all_given, few_ready}
use Rattle.price_bound.proofs.FewTaken.{few_all_taken, few_taken}
use Rattle.price_bound.proofs.Pricing.{size_of_product, size_of_sum, size_within}
use Rattle.price_bound.proofs.Whole.{are_picks}

-- ---- slacks

small_count : (given taken : ℕ) → given ≤ 4400 → taken ≤ 4400 → unsigned_abs (neg_ℤ (pos given -ℤ pos taken)) ≤ MAX_SLACK
small_count given taken few few' = size_within (neg_ℤ (pos given -ℤ pos taken)) MAX_SLACK (omega (arith, ints, few, few')) (omega (arith, ints, few, few'))

small_end : (wanted given taken : ℕ) → given ≤ 4400 → wanted + taken ≤ 4400 → unsigned_abs (pos wanted -ℤ (pos given -ℤ pos taken)) ≤ MAX_SLACK
small_end wanted given taken few few' = size_within (pos wanted -ℤ (pos given -ℤ pos taken)) MAX_SLACK (omega (arith, ints, few, few')) (omega (arith, ints, few, few'))

small_part : (a b : Bool) → unsigned_abs (one_if a -ℤ one_if b) ≤ MAX_SLACK
small_part true true = omega arith
small_part true false = omega arith
small_part false true = omega arith
small_part false false = omega arith

module _ (day : Day) (picks : List ℕ) (accepted : IsSoundDay day) (follow : Follow day picks) where
  picks_are : ArePicks day picks
  picks_are = are_picks day picks follow

  small_handover : (comp : ℕ) (o : Option Handover) → unsigned_abs (unwrap_or (option_map (handover_slack day picks comp) o) (pos 0)) ≤ MAX_SLACK
  small_handover comp None = omega arith
  small_handover comp (Some handover) = small_part (is_part day picks handover comp) (pick_of picks handover.second == comp)

  small_at : (place : Place) → unsigned_abs (slack_at day picks place) ≤ MAX_SLACK
  small_at (Lambda s m k) =
      let minute : ℕ = get_or (minutes_of day s) k 0 in
      let start = few_start day accepted.limits s m in
      let given = few_ready day picks accepted.limits picks_are s m minute in
      let taken = few_taken day picks accepted.limits picks_are s m minute in
      small_count (start_of day s m + ready_until day (picked day picks) s m minute) (taken_until day (picked day picks) s m minute) (omega arith) (omega arith)
  small_at (Mu s m) =
      let start = few_start day accepted.limits s m in
      let given = few_all_given day picks accepted.limits picks_are s m in
      let taken = few_all_taken day picks accepted.limits picks_are s m in
      let wanted = accepted.stock.few s m in
      small_end (wanted_of day s m) (start_of day s m + all_given day (picked day picks) s m) (all_taken day (picked day picks) s m) (omega arith) (omega arith)
  small_at (Sigma h comp) = small_handover comp (slice_get (handovers_of day) h)

  small : (index : ℕ) → unsigned_abs (slack_of day picks index) ≤ MAX_SLACK
  unfolding slack_of
  small index = by (slice_get (places_of day) index)
    where
      by : (o : Option Place) → unsigned_abs (unwrap_or (option_map (slack_at day picks) o) (pos 0)) ≤ MAX_SLACK
      by None = omega arith
      by (Some place) = small_at place

  -- ---- priced values

  small_sum : (entries : List Entry) → All (λ entry. unsigned_abs entry.value ≤ MAX_MULTIPLIER) entries
      → unsigned_abs (int_sum (λ entry. entry.value *ℤ slack_of day picks entry.index) entries) ≤ length entries * (MAX_MULTIPLIER * MAX_SLACK)
  small_sum [] within = omega arith
  small_sum (entry ∷ entries) within =
      let first = size_of_product entry.value (slack_of day picks entry.index) MAX_MULTIPLIER MAX_SLACK (All-head (λ (entry : Entry). unsigned_abs entry.value ≤ MAX_MULTIPLIER) entry entries within) (small entry.index) in
      let rest = small_sum entries (All-tail (λ (entry : Entry). unsigned_abs entry.value ≤ MAX_MULTIPLIER) entry entries within) in
      let both = size_of_sum (entry.value *ℤ slack_of day picks entry.index) (int_sum (λ (entry : Entry). entry.value *ℤ slack_of day picks entry.index) entries)
      (MAX_MULTIPLIER * MAX_SLACK) (length entries * (MAX_MULTIPLIER * MAX_SLACK)) first rest in
      let next = suc-mul (length entries) (MAX_MULTIPLIER * MAX_SLACK) in
      omega arith

  small_cost : (weight : Weight) → unsigned_abs (weighted weight (pos (cost_of day (picked day picks)))) ≤ MAX_DAY_COST
  small_cost Cost = day_costs day accepted.limits picks picks_are
  small_cost NoCost = omega arith

pub slacks_are_small : SlacksAreSmall
slacks_are_small day picks index accepted follow = small day picks accepted follow index

pub values_are_small : ValuesAreSmall
values_are_small day picks multipliers weight accepted follow are =
    let cost = small_cost day picks accepted follow weight in
    let sum = small_sum day picks accepted follow multipliers are.within in
    let both = size_of_sum (weighted weight (pos (cost_of day (picked day picks)))) (slack_sum (meanings_of day) multipliers picks)
    MAX_DAY_COST (length multipliers * (MAX_MULTIPLIER * MAX_SLACK)) cost sum in
    let few = are.few in
    omega arith

-- ---- under changes

pub changed_slacks_are_small : ChangedSlacksAreSmall
changed_slacks_are_small day changes picks index accepted follow = small day picks accepted follow index

-- what a trip's change costs
one_change : (here base : Bool) (cost rest most : ℕ) → cost ≤ most → rest ≤ most → (if here then (if base then 0 else cost) else rest) ≤ most
one_change true true cost rest most few more = omega arith
one_change true false cost rest most few more = few
one_change false base cost rest most few more = more

few_changes : (changes : List Change) (t comp : ℕ) → All (λ change. change.cost ≤ MAX_CHANGE) changes → change_cost changes t comp ≤ MAX_CHANGE
few_changes [] t comp few = omega arith
few_changes (change ∷ changes) t comp few =
    one_change (change.trip == t) (change.base == comp) change.cost (change_cost changes t comp) MAX_CHANGE
    (All-head (λ (c : Change). c.cost ≤ MAX_CHANGE) change changes few)
    (few_changes changes t comp (All-tail (λ (c : Change). c.cost ≤ MAX_CHANGE) change changes few))

module _ (day : Day) (changes : List Change) (picks : List ℕ) (accepted : IsSoundDay day) (are : AreChanges day changes) (follow : Follow day picks) where
  -- what changes add
  small_added : added_cost changes picks ≤ MAX_TRIPS * MAX_CHANGE
  small_added =
      let sum : sum_below (λ t. change_cost changes t (pick_of picks t)) (length day.trips) ≤ length day.trips * MAX_CHANGE =
      summed (λ t. change_cost changes t (pick_of picks t)) MAX_CHANGE (length day.trips) (λ t below. few_changes changes t (pick_of picks t) are.costs) in
      let same = added_by_trips changes picks (length day.trips) are.rising are.trips in
      let few = accepted.limits.timetable.trip_count in
      omega (arith, sum, same, few)

  small_changed_cost : (weight : Weight) → unsigned_abs (weighted weight (pos (cost_of day (picked day picks) + added_cost changes picks))) ≤ MAX_DAY_COST + MAX_TRIPS * MAX_CHANGE
  small_changed_cost Cost =
      let cost = day_costs day accepted.limits picks (are_picks day picks follow) in
      omega (arith, cost, small_added)
  small_changed_cost NoCost = omega arith

pub changed_values_are_small : ChangedValuesAreSmall
changed_values_are_small day changes picks multipliers weight accepted changes_are follow are =
    let cost = small_changed_cost day changes picks accepted changes_are follow weight in
    let sum = small_sum day picks accepted follow multipliers are.within in
    let both = size_of_sum (weighted weight (pos (cost_of day (picked day picks) + added_cost changes picks)))
    (slack_sum (changed_meanings (changed_day day changes)) multipliers picks)
    (MAX_DAY_COST + MAX_TRIPS * MAX_CHANGE) (length multipliers * (MAX_MULTIPLIER * MAX_SLACK)) cost sum in
    let few = are.few in
    omega arith
