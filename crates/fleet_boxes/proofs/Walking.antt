-- Proved boxes bound what a fleet of the day and a plan with it cost.
use Rattle.std.proofs.Common.{ℕ, zero, suc, ◌+◌, ◌*◌, ◌≤◌, List, [], ◌∷◌, length, refl, ap, arith, subst}
use Rattle.std.proofs.Common.{inl, inr, false}
use Rattle.std.specs.Prelude.{IsTrue, ◌⊎◌, ℤ, pos, ◌+ℤ◌, ◌≤ℤ◌, slice_index}
use Rattle.std.specs.List.{Contains}
use Rattle.std.proofs.lemmas.Int.{ints}
use Rattle.std.proofs.lemmas.Bool.{cases_lt}
use Rattle.timetable.specs.Accepted.{IsSoundDay}
use Rattle.timetable.specs.Cost.{plan_cost, PlansCostAtLeast, NoPlanRuns}
use Rattle.timetable.specs.Day.{Day}
use Rattle.timetable.specs.Running.{Runs}
use Rattle.branch_tree.specs.declared.tree.Node.{Node}
use Rattle.branch_tree.specs.Claims.{IsProved, bounded, infeasible}
use Rattle.branch_tree.specs.Regions.{root_of}
use Rattle.branch_tree.proofs.Concluding.{proved_is_concluded}
use Rattle.price_bound.specs.DayMeanings.{meanings_of}
use Rattle.price_bound.proofs.Whole.{relaxes}
use Rattle.rail_base.specs.declared.numbers.Money.{Money}
use Rattle.rules.specs.declared.heads.Head.TheVariants as heads
use Rattle.answer_check.proofs.Truth.{holds}
use Rattle.fleets.specs.Fleets.{FitsDay, IsNowhereAbove, own_fleet, with_fleet}
use Rattle.fleets.specs.Laws.{RunsAlikeWith}
use Rattle.fleets.proofs.MoreUnits.{plans_run_with_more_units}
use Rattle.fleets.proofs.OwnFleets.{own_fleet_fits}
use Rattle.fleets.proofs.Sizes.{smaller_fleets_fit}
use Rattle.fleets.proofs.SoundFleets.{days_of_fleets_are_sound}
use Rattle.fleet_boxes.specs.declared.boxes.FleetBox.{FleetBox}
use Rattle.fleet_boxes.specs.declared.nodes.BoxNode.{BoxNode}
use Rattle.fleet_boxes.specs.declared.nodes.BoxNode.TheVariants.{Split, Bound, Nothing}
use Rattle.fleet_boxes.specs.Boxes.{HasFleet, IsParted, box_of, lower_part, upper_part}
use Rattle.fleet_boxes.specs.Laws.{ProvedBoxesBound}
use Rattle.fleet_boxes.specs.Prices.{fleet_cost}
use Rattle.fleet_boxes.specs.ProvedBoxes.{AreTrees, IsProvedAt, price_of, values_in, values_of}
use Rattle.fleet_boxes.proofs.Costs.{larger_fleets_cost_no_less}
use Rattle.fleet_boxes.proofs.Parts.{boxes_have_all_fleets, not_above, splits_part}

-- ---- what the tree of a leaf says of all plans of its day

never : IsTrue false → ⊥
never none = cc

bounded_day : (day : Day) (bound : Money) (branchings : ℕ) (tree : List Node) → IsSoundDay day
    → IsProved (meanings_of day) (root_of day) (bounded bound.0) branchings tree → PlansCostAtLeast day bound.0
bounded_day day bound branchings tree sound proved =
    holds day sound [] [] (heads.Bounded bound) (λ none. absurd (never none))
    (proved_is_concluded (meanings_of day) (relaxes day sound) (root_of day) (bounded bound.0) branchings tree proved)

no_plan_of_day : (day : Day) (branchings : ℕ) (tree : List Node) → IsSoundDay day
    → IsProved (meanings_of day) (root_of day) infeasible branchings tree → NoPlanRuns day
no_plan_of_day day branchings tree sound proved =
    holds day sound [] [] heads.Infeasible (λ none. absurd (never none))
    (proved_is_concluded (meanings_of day) (relaxes day sound) (root_of day) infeasible branchings tree proved)

-- ---- values

-- a value that is at most a price is there
record IsWorth (values : List ℤ) (price : ℕ) : Type 0 where
  pub value : ℤ
  pub there : Contains values value
  pub small : value ≤ℤ pos price

first_worth : (value : ℤ) (values : List ℤ) (price : ℕ) → value ≤ℤ pos price → IsWorth (value ∷ values) price
first_worth value values price small = record { value = value; there = (zero, (omega arith), refl); small = small }

later_worth : (value : ℤ) (values : List ℤ) (price : ℕ) → IsWorth values price → IsWorth (value ∷ values) price
later_worth value values price is =
    let (k, lt, e) = is.there in
    record { value = is.value; there = (suc k, (omega arith), e); small = is.small }

module _ (day : Day) (prices : List ℕ) (sound : IsSoundDay day) where
  -- the greatest fleet of each box fits the day
  abbrev Fit : List FleetBox → Type 0
  Fit [] = Unit {0}
  Fit (box ∷ boxes) = FitsDay day box.greatest × Fit boxes

  -- the fleet is in one of the boxes
  abbrev InSome : List FleetBox → List ℕ → Type 0
  InSome [] fleet = ⊥
  InSome (box ∷ boxes) fleet = HasFleet box fleet ⊎ InSome boxes fleet

  -- the sum of what is no more than two
  sums : (bound : ℤ) (cost least units : ℕ) → bound ≤ℤ pos cost → least ≤ units → (bound +ℤ pos least) ≤ℤ pos (cost + units)
  sums bound cost least units low less = omega (arith, ints)

  module _ (fleet : List ℕ) (plan : List (List ℕ)) (runs : Runs (with_fleet fleet day) plan) where
    leaf_worth : (box : FleetBox) (bound : Money) (branchings : ℕ) (tree : List Node) → FitsDay day box.greatest → HasFleet box fleet
        → IsProved (meanings_of (with_fleet box.greatest day)) (root_of (with_fleet box.greatest day)) (bounded bound.0) branchings tree
        → (bound.0 +ℤ pos (fleet_cost prices box.least)) ≤ℤ pos (price_of day prices fleet plan)
    leaf_worth box bound branchings tree fits has proved =
        let most : Day = with_fleet box.greatest day in
        let more : RunsAlikeWith day fleet box.greatest plan = plans_run_with_more_units day fleet box.greatest plan has.below runs in
        let all : PlansCostAtLeast most bound.0 = bounded_day most bound branchings tree (days_of_fleets_are_sound day box.greatest sound fits) proved in
        let low : bound.0 ≤ℤ pos (plan_cost (with_fleet fleet day) plan) =
        subst (λ (n : ℕ). bound.0 ≤ℤ pos n) more.cost (all more.other more.does_run) in
        sums bound.0 (plan_cost (with_fleet fleet day) plan) (fleet_cost prices box.least) (fleet_cost prices fleet) low
        (larger_fleets_cost_no_less prices box.least fleet has.above)

    nothing_runs : (box : FleetBox) (branchings : ℕ) (tree : List Node) → FitsDay day box.greatest → HasFleet box fleet
        → IsProved (meanings_of (with_fleet box.greatest day)) (root_of (with_fleet box.greatest day)) infeasible branchings tree → ⊥
    nothing_runs box branchings tree fits has proved =
        let more : RunsAlikeWith day fleet box.greatest plan = plans_run_with_more_units day fleet box.greatest plan has.below runs in
        no_plan_of_day (with_fleet box.greatest day) branchings tree (days_of_fleets_are_sound day box.greatest sound fits) proved more.other more.does_run

    -- a fleet of a box is in one of its parts
    in_parts : (box : FleetBox) (boxes : List FleetBox) (place at : ℕ) → IsParted box place at → InSome (box ∷ boxes) fleet
        → InSome (lower_part place at box ∷ upper_part place at box ∷ boxes) fleet
    in_parts box boxes place at parted (inl has) =
        let parts = splits_part box place at fleet parted in
        elim (cases_lt at (slice_index fleet place)) [
          | inl more ↦ inr (inl (parts.upper.1 (has, more)))
          | inr few ↦ inl (parts.lower.1 (has, few))
        ]
    in_parts box boxes place at parted (inr rest) = inr (inr rest)

    walk : (nodes : List BoxNode) (boxes : List FleetBox) → AreTrees (IsProvedAt day) (length day.types) boxes nodes → Fit boxes → InSome boxes fleet
        → IsWorth (values_in (length day.types) prices boxes nodes) (price_of day prices fleet plan)
    walk [] [] trees fit here = absurd here
    walk [] (box ∷ boxes) trees fit here = absurd trees
    walk (node ∷ nodes) [] trees fit here = absurd here
    walk (Split station unit_type at ∷ nodes) (box ∷ boxes) trees fit here =
        let place : ℕ = station * length day.types + unit_type in
        let parted : IsParted box place at = trees.0.parted in
        let less : IsNowhereAbove (lower_part place at box).greatest box.greatest = not_above box.greatest place at (omega (arith, parted.below)) in
        walk nodes (lower_part place at box ∷ upper_part place at box ∷ boxes) trees.1
        (smaller_fleets_fit day (lower_part place at box).greatest box.greatest fit.0 less, (fit.0, fit.1))
        (in_parts box boxes place at parted here)
    walk (Bound bound branchings tree ∷ nodes) (box ∷ boxes) trees fit (inl has) =
        first_worth (bound.0 +ℤ pos (fleet_cost prices box.least)) (values_in (length day.types) prices boxes nodes) (price_of day prices fleet plan)
        (leaf_worth box bound branchings tree fit.0 has trees.0)
    walk (Bound bound branchings tree ∷ nodes) (box ∷ boxes) trees fit (inr rest) =
        later_worth (bound.0 +ℤ pos (fleet_cost prices box.least)) (values_in (length day.types) prices boxes nodes) (price_of day prices fleet plan)
        (walk nodes boxes trees.1 fit.1 rest)
    walk (Nothing branchings tree ∷ nodes) (box ∷ boxes) trees fit (inl has) = absurd (nothing_runs box branchings tree fit.0 has trees.0)
    walk (Nothing branchings tree ∷ nodes) (box ∷ boxes) trees fit (inr rest) = walk nodes boxes trees.1 fit.1 rest

pub proved_boxes_bound : ProvedBoxesBound
proved_boxes_bound day prices nodes sound proved = record {
  leaf = λ fleet plan below runs. let is = worth fleet plan below runs in (is.value, is.there, is.small);
  bound = λ bound all fleet plan below runs.
      let is = worth fleet plan below runs in
      let (k, lt, e) = is.there in
      let low : bound ≤ℤ is.value = subst (λ (v : ℤ). bound ≤ℤ v) e (all k is.value lt) in
      between bound is.value (price_of day prices fleet plan) low is.small;
  none = λ empty fleet plan below runs.
      let is = worth fleet plan below runs in
      let (k, lt, e) = is.there in
      let size = ap (length {A = ℤ}) empty in
      absurd (omega arith);
}
  where
    worth : (fleet : List ℕ) (plan : List (List ℕ)) → IsNowhereAbove fleet (own_fleet day) → Runs (with_fleet fleet day) plan → IsWorth (values_of day prices nodes) (price_of day prices fleet plan)
    worth fleet plan below runs =
        walk day prices sound fleet plan runs nodes (box_of day ∷ []) proved
        (own_fleet_fits day sound.limits.units.few, tt) (inl ((boxes_have_all_fleets day fleet).1 below))

    between : (bound value : ℤ) (price : ℕ) → bound ≤ℤ value → value ≤ℤ pos price → bound ≤ℤ pos price
    between bound value price low small = omega (arith, ints)
