-- What a day costs with picks is no more than the most.
use Rattle.std.proofs.Common.{◌<◌, ◌≤◌, ◌+◌, ◌-◌, ◌*◌, ℕ, zero, suc, List, length, Bool, true, false, Option, Some}
use Rattle.std.proofs.Common.{None, slice_get, unwrap_or, arith}
use Rattle.std.specs.Prelude.{option_map, if◌then◌else◌}
use Rattle.std.proofs.Math.Nat.{mul-le-mul, suc-mul, zero-mul}
use Rattle.compositions.specs.Composition.{carriages_of, seats_of, first_seats_of}
use Rattle.rules.specs.declared.records.Link.{Link}
use Rattle.rules.specs.declared.records.LinkKind.{LinkKind}
use Rattle.rules.specs.declared.records.LinkKind.TheVariants.{Turn, Join, Split}
use Rattle.timetable.specs.Accepted.{IsDay}
use Rattle.timetable.specs.Cost.{cost_of, is_shunted, kind_cost, link_cost, missing_seats, trip_cost}
use Rattle.timetable.specs.Day.{Day, km_of, demand_of, first_demand_of}
use Rattle.timetable.specs.Links.{list_of, turned}
use Rattle.timetable.specs.Lists.{sum_below}
use Rattle.timetable.specs.Picks.{ArePicks, picked}
use Rattle.timetable.proofs.Carriages.{carriages_le}
use Rattle.cost_model.specs.declared.costs.TheConstants.{MAX_DAY_COST}
use Rattle.price_bound.proofs.FewTaken.{few_listed}

-- a sum of numbers that are at most one
pub summed : (f : ℕ → ℕ) (most n : ℕ) → ((k : ℕ) → k < n → f k ≤ most) → sum_below f n ≤ n * most
summed f most zero few = let none = zero-mul most in omega arith
summed f most (suc n) few =
    let rest = summed f most n (λ k below. few k (omega (arith, below))) in
    let last = few n (omega arith) in
    let next = suc-mul n most in
    omega arith

-- a weight, a count and kilometres
product : (weight count km most : ℕ) → weight ≤ 10000 → count ≤ most → km ≤ 1000 → weight * count * km ≤ 10000 * most * 1000
product weight count km most a b c = mul-le-mul (mul-le-mul a b) c

missing : (first first_seats second seats : ℕ) → first ≤ 10000 → second ≤ 10000 → (first - first_seats) + (second - seats) ≤ 20000
missing first first_seats second seats a b = omega (arith, a, b)

when : (b : Bool) (n most : ℕ) → n ≤ most → (if b then n else 0) ≤ most
when true n most few = few
when false n most few = omega arith

module _ (day : Day) (is_day : IsDay day) where
  -- a trip with at most six units
  trip_costs : (t : ℕ) (types : List ℕ) → t < length day.trips → length types ≤ 6 → trip_cost day t types ≤ 201200000000
  unfolding trip_cost missing_seats
  trip_costs t types below few =
      let carriages : carriages_of day.types types ≤ 120 = let most = carriages_le day.types types is_day.timetable.unit_types in omega arith in
      let seats : missing_seats day t types ≤ 20000 =
      missing (first_demand_of day t) (first_seats_of day.types types) (demand_of day t) (seats_of day.types types) (is_day.timetable.first_demand t below) (is_day.timetable.demand t below) in
      let carried = product day.weights.carriage (carriages_of day.types types) (km_of day t) 120 is_day.timetable.carriage carriages (is_day.timetable.km t below) in
      let missed = product day.weights.shortage (missing_seats day t types) (km_of day t) 20000 is_day.timetable.shortage seats (is_day.timetable.km t below) in
      omega arith

  kind_costs : (kind : LinkKind) (r : Bool) (lists : List (List ℕ)) → kind_cost day kind r lists ≤ 10000
  kind_costs (Turn a b uncouple couple exchange) r lists =
      when (is_shunted uncouple couple (turned r (list_of lists a)) (list_of lists b)) day.weights.shunting 10000 is_day.timetable.shunting
  kind_costs (Join a1 a2 b) r lists = omega arith
  kind_costs (Split a b1 b2) r lists = omega arith

  link_costs : (l : ℕ) (lists : List (List ℕ)) → link_cost day l lists ≤ 10000
  unfolding link_cost
  link_costs l lists = by (slice_get day.links l)
    where
      by : (o : Option Link) → unwrap_or (option_map (λ link. kind_cost day link.kind link.reverse lists) o) 0 ≤ 10000
      by None = omega arith
      by (Some link) = kind_costs link.kind link.reverse lists

  pub day_costs : (picks : List ℕ) → ArePicks day picks → cost_of day (picked day picks) ≤ MAX_DAY_COST
  unfolding cost_of
  day_costs picks are_picks =
      let trips = summed (λ t. trip_cost day t (list_of (picked day picks) t)) 201200000000 (length day.trips)
      (λ t below. trip_costs t (list_of (picked day picks) t) below (few_listed day picks is_day are_picks t)) in
      let links = summed (λ l. link_cost day l (picked day picks)) 10000 (length day.links) (λ l below. link_costs l (picked day picks)) in
      let few_trips = is_day.timetable.trip_count in
      let few_links = is_day.timetable.link_count in
      omega arith
