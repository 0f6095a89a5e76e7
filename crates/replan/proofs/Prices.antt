-- The price of a plan of the later day is its cost and what the changes add for its picks.
use Rattle.std.proofs.Common.{◌≡◌, ℕ, zero, suc, ◌+◌, ◌*◌, ◌<◌, ◌≤◌, List, [], ◌∷◌, ◌++◌, length, Bool, true, false, sym, ap, ◌∙◌}
use Rattle.std.proofs.Common.{arith, get_or, inl, inr}
use Rattle.std.specs.Prelude.{if◌then◌else◌, not, ◌==◌}
use Rattle.std.proofs.Math.Nat.{mul-suc, mul-zero}
use Rattle.std.proofs.lemmas.Bool.{cases_Bool, eq-eqb, ne_eqb}
use Rattle.timetable.specs.Compositions.{compositions_of, composition_at}
use Rattle.timetable.specs.Cost.{plan_cost}
use Rattle.timetable.specs.Day.{types_of}
use Rattle.timetable.specs.Links.{list_of}
use Rattle.timetable.specs.Lists.{count_below, listed}
use Rattle.timetable.specs.Picks.{RunsByPicks}
use Rattle.timetable.specs.Turns.{same}
use Rattle.timetable.proofs.Shares.{same_lists}
use Rattle.price_bound.specs.declared.changes.Change.{Change}
use Rattle.price_bound.specs.ChangedDays.{added_cost, own_cost}
use Rattle.replan.specs.Disturbances.{Disturbed, is_changed, later_day, planned_types, price_of, trips_later}
use Rattle.replan.specs.Laws.{IsUnderWay, PricesAreChangedCosts}
use Rattle.replan.specs.RestsOfDays.{changes_of, planned_comp}
use Rattle.replan.proofs.GoingOn.{typed}
use Rattle.replan.proofs.PlannedTypes.{are_same, planned_alone, planned_is}

-- what one more change adds
added_more : (changes : List Change) (change : Change) (picks : List ℕ)
    → added_cost (changes ++ change ∷ []) picks ≡ added_cost changes picks + own_cost picks change
added_more [] change picks = omega arith
added_more (first ∷ changes) change picks = omega (arith, added_more changes change picks)

and_none : (n : ℕ) → n ≡ n + 0
and_none n = omega arith

-- where a test decides alike, so many more times a cost are added
one_more : (cost count : ℕ) (changed : Bool) → cost * (count + (if changed then 1 else 0)) ≡ cost * count + (if not changed then 0 else cost)
one_more cost count true =
    let more : count + 1 ≡ suc count = omega arith in
    ap (λ (n : ℕ). cost * n) more ∙ mul-suc cost count
one_more cost count false =
    ap (λ (n : ℕ). cost * n) (sym (and_none count)) ∙ and_none (cost * count)

module _ (disturbed : Disturbed) (way : IsUnderWay disturbed) (plan : List (List ℕ)) (picks : List ℕ)
    (by : RunsByPicks (later_day disturbed) plan picks) where
  -- a trip's pick is the planned composition exactly where it has the planned types
  alike : (t : ℕ) → t < trips_later disturbed → (planned_comp disturbed t == get_or picks t 0) ≡ not (is_changed disturbed plan t)
  alike t lt = elim (cases_Bool (same (types_of (later_day disturbed) (list_of plan t)) (planned_types disturbed t))) [
    | inl is ↦
        let types : composition_at (later_day disturbed) (get_or picks t 0) ≡ planned_types disturbed t =
        typed (later_day disturbed) plan picks by t lt ∙ same_lists (types_of (later_day disturbed) (list_of plan t)) (planned_types disturbed t) is in
        let listed_pick : get_or picks t 0 < length (compositions_of (later_day disturbed)) = by.are_picks.known t 0 (omega (arith, lt, by.are_picks.trips)) in
        eq-eqb (planned_comp disturbed t) (get_or picks t 0) (sym (planned_alone disturbed way t (get_or picks t 0) lt listed_pick types))
        ∙ sym (ap (λ (b : Bool). not (not b)) is)
    | inr isnt ↦
        ne_eqb (planned_comp disturbed t) (get_or picks t 0)
        (λ e. let types : types_of (later_day disturbed) (list_of plan t) ≡ planned_types disturbed t =
        sym (typed (later_day disturbed) plan picks by t lt) ∙ ap (composition_at (later_day disturbed)) (sym e) ∙ planned_is disturbed way t lt in
        let is : same (types_of (later_day disturbed) (list_of plan t)) (planned_types disturbed t) ≡ true =
        are_same (types_of (later_day disturbed) (list_of plan t)) (planned_types disturbed t) types in
        absurd cc)
        ∙ sym (ap (λ (b : Bool). not (not b)) isnt)
  ]

  abbrev change_at : ℕ → Change
  change_at t = record { trip = t; base = planned_comp disturbed t; cost = disturbed.change }

  added : (n : ℕ) → n ≤ trips_later disturbed → disturbed.change * count_below (is_changed disturbed plan) n ≡ added_cost (listed change_at n) picks
  added zero le = mul-zero disturbed.change
  added (suc n) le =
      one_more disturbed.change (count_below (is_changed disturbed plan) n) (is_changed disturbed plan n)
      ∙ ap (λ (b : Bool). disturbed.change * count_below (is_changed disturbed plan) n + (if b then 0 else disturbed.change)) (sym (alike n (omega (arith, le))))
      ∙ ap (λ (sum : ℕ). sum + own_cost picks (change_at n)) (added n (omega (arith, le)))
      ∙ sym (added_more (listed change_at n) (change_at n) picks)

  pub price : price_of disturbed plan ≡ plan_cost (later_day disturbed) plan + added_cost (changes_of disturbed) picks
  unfolding changes_of
  price = ap (λ (sum : ℕ). plan_cost (later_day disturbed) plan + sum) (added (trips_later disturbed) (omega arith))

pub prices_are_changed_costs : PricesAreChangedCosts
prices_are_changed_costs disturbed plan picks way by = price disturbed way plan picks by
