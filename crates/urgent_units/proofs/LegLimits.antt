-- The legs of a day are within its limits.
use Rattle.std.proofs.Common.{ℕ, zero, suc, ◌+◌, ◌≤◌, ◌<◌, Bool, true, false, List, [], ◌∷◌, length, map, refl, sym, ap, ◌∙◌, subst, arith, inl, inr, length-append}
use Rattle.std.specs.Prelude.{if◌then◌else◌, ◌==◌, filter}
use Rattle.std.specs.List.{All}
use Rattle.std.proofs.lemmas.Bool.{cases_Bool, cond-true, cond-false}
use Rattle.std.proofs.lemmas.List.{length-map, map-append}
use Rattle.std.proofs.lemmas.List.Elements.{All-nil, All-cons, All-append, filter-append}
use Rattle.rail_base.specs.declared.limits.TheConstants.{MAX_MINUTES, MAX_REALLOCATION, MAX_TRIPS}
use Rattle.timetable.specs.Accepted.{IsDay, AreLinks}
use Rattle.timetable.specs.Day.{Day, leaves, from_of, to_of, type_of, unit_count, ready_at}
use Rattle.timetable.specs.Duties.{duty}
use Rattle.timetable.specs.Lists.{count_of, below}
use Rattle.timetable.specs.Running.{Runs}
use Rattle.timetable.proofs.Ones.{one_same}
use Rattle.inventory.proofs.OnDuty.{duty_once, duty_within}
use Rattle.urgent_units.specs.declared.legs.Leg.{Leg}
use Rattle.urgent_units.specs.declared.legs.UnitLegs.{UnitLegs}
use Rattle.urgent_units.specs.LegParts.{AreLegs, IsLegAt}
use Rattle.urgent_units.specs.Legs.{TypeLegs, leg_of, legs_of, legs_of_unit, stays, unit_legs}
use Rattle.urgent_units.specs.Runs.{runs_of, with_trip, first_of}
use Rattle.urgent_units.proofs.InTurn.{starts, AreTrips}
use Rattle.urgent_units.proofs.WishRows.{few_units}

-- ---- how many runs

with_trip_few : (goes : ℕ → ℕ → Bool) (t : ℕ) (runs : List (List ℕ)) → length (with_trip goes t runs) ≤ suc (length runs)
with_trip_few goes t [] = omega arith
with_trip_few goes t (run ∷ runs) = by (goes t (first_of run))
  where
    by : (b : Bool) → length (if b then (t ∷ run) ∷ runs else (t ∷ []) ∷ run ∷ runs) ≤ suc (suc (length runs))
    by true = omega arith
    by false = omega arith

runs_few : (goes : ℕ → ℕ → Bool) (ts : List ℕ) → length (runs_of goes ts) ≤ length ts
runs_few goes [] = omega arith
runs_few goes (t ∷ ts) = omega (arith, with_trip_few goes t (runs_of goes ts), runs_few goes ts)

-- ---- the ends of legs

module _ (day : Day) (goes : ℕ → ℕ → Bool) (P Q : ℕ → ℕ → Type 0) where
  -- what holds of where and when trips leave, and of where and when their units are ready, holds of legs
  abbrev pub EndsHold : Leg → Type 0
  EndsHold leg = P leg.from leg.departs × Q leg.to leg.ready

  pub ends_hold : ((t : ℕ) → t < length day.trips → P (from_of day t) (leaves day t)) → ((t : ℕ) → t < length day.trips → Q (to_of day t) (ready_at day t)) → (ts : List ℕ) (t : ℕ) → AreTrips day (t ∷ ts)
      → All EndsHold (map (leg_of day) (runs_of goes (t ∷ ts)))
  ends_hold first last [] t known = All-cons EndsHold (leg_of day (t ∷ [])) [] (first t known.0, last t known.0) (All-nil EndsHold)
  ends_hold first last (b ∷ ts) t known =
      let rest = starts goes b ts in
      let there : All EndsHold (map (leg_of day) ((b ∷ rest.more) ∷ rest.others)) = subst (λ (runs : List (List ℕ)). All EndsHold (map (leg_of day) runs)) rest.is (ends_hold first last ts b known.1) in
      let runs = ap (with_trip goes t) rest.is in
      let next = there 0 (leg_of day (b ∷ rest.more)) (omega arith) in
      elim (cases_Bool (goes t b)) [
        | inl goes_on ↦
            subst (λ (runs : List (List ℕ)). All EndsHold (map (leg_of day) runs)) (sym (runs ∙ cond-true (goes t b) ((t ∷ b ∷ rest.more) ∷ rest.others) ((t ∷ []) ∷ (b ∷ rest.more) ∷ rest.others) goes_on))
            (All-cons EndsHold (leg_of day (t ∷ b ∷ rest.more)) (map (leg_of day) rest.others) (first t known.0, next.1) (λ k d below. there (suc k) d (omega (arith, below))))
        | inr ends ↦
            subst (λ (runs : List (List ℕ)). All EndsHold (map (leg_of day) runs)) (sym (runs ∙ cond-false (goes t b) ((t ∷ b ∷ rest.more) ∷ rest.others) ((t ∷ []) ∷ (b ∷ rest.more) ∷ rest.others) ends))
            (All-cons EndsHold (leg_of day (t ∷ [])) (map (leg_of day) ((b ∷ rest.more) ∷ rest.others)) (first t known.0, last t known.0) there)
      ]

-- ---- the legs of a type

module _ (day : Day) (plan : List (List ℕ)) (is_day : IsDay day) (links : AreLinks day) (runs : Runs day plan) (m : ℕ) where
  abbrev all : TypeLegs
  all = legs_of day plan m

  trips_known : (ts : List ℕ) → ((t : ℕ) → 1 ≤ count_of t ts → t < length day.trips) → AreTrips day ts
  trips_known [] known = tt
  trips_known (t ∷ ts) known = (known t (let here = one_same t t refl in omega (arith, here)), trips_known ts (λ x c. known x (omega (arith, c))))

  -- a duty has no more trips than the day may have
  pub duty_few : (u : ℕ) → length (duty day plan u) ≤ MAX_TRIPS
  duty_few u =
      let few = few_units (duty day plan u) (length day.trips) (duty_within day plan is_day links runs u) (duty_once day plan is_day links runs u) in
      omega (arith, few, is_day.timetable.trip_count)

  unit_few : (u : ℕ) → length (legs_of_unit day plan u) ≤ MAX_TRIPS
  unit_few u =
      omega (arith, length-map (runs_of (stays day plan u) (duty day plan u)) (leg_of day), runs_few (stays day plan u) (duty day plan u), duty_few u)

  unit_each : (u : ℕ) → All (IsLegAt all) (legs_of_unit day plan u)
  unit_each u = on (duty day plan u) (trips_known (duty day plan u) (duty_within day plan is_day links runs u))
    where
      First : ℕ → ℕ → Type 0
      First s departs = (s < length day.stations) × (departs < MAX_MINUTES + MAX_REALLOCATION)

      on : (ts : List ℕ) → AreTrips day ts → All (IsLegAt all) (map (leg_of day) (runs_of (stays day plan u) ts))
      on [] known = All-nil (IsLegAt all)
      on (t ∷ ts) known =
          let holds = ends_hold day (stays day plan u) (λ s departs. (s < length day.stations) × (departs < MAX_MINUTES + MAX_REALLOCATION)) (λ s ready. (s < length day.stations) × (ready < MAX_MINUTES + MAX_REALLOCATION))
          (λ x below. (is_day.timetable.origin x below, omega (arith, is_day.timetable.time x below, is_day.timetable.late x below)))
          (λ x below. (is_day.timetable.goal x below, omega (arith, is_day.timetable.late x below, is_day.timetable.reallocation (to_of day x))))
          ts t known in
          λ k d below. (let held = holds k d below in record { from = held.0.0; to = held.1.0; departs = held.0.1; ready = held.1.1 })

  units_few : (n : ℕ) → length (filter (λ u. type_of day u == m) (below n)) ≤ n
  units_few zero = omega arith
  units_few (suc n) =
      let parts = ap (length {A = ℕ}) (filter-append (λ u. type_of day u == m) (below n) (n ∷ [])) in
      let sum = length-append (filter (λ u. type_of day u == m) (below n)) (filter (λ u. type_of day u == m) (n ∷ [])) in
      omega (arith, parts, sum, units_few n, one (type_of day n == m))
    where
      one : (b : Bool) → length (if b then n ∷ [] else []) ≤ 1
      one true = omega arith
      one false = omega arith

  each_unit : (P : UnitLegs → Type 0) → ((u : ℕ) → u < unit_count day → P (unit_legs day plan u)) → All P all.units
  each_unit P each = on (unit_count day) (λ u below. each u below)
    where
      on : (n : ℕ) → ((u : ℕ) → u < n → P (unit_legs day plan u)) → All P (map (unit_legs day plan) (filter (λ u. type_of day u == m) (below n)))
      on zero each = All-nil P
      on (suc n) each =
          subst (λ (us : List ℕ). All P (map (unit_legs day plan) us)) (sym (filter-append (λ u. type_of day u == m) (below n) (n ∷ [])))
          (subst (All P) (sym (map-append (unit_legs day plan) (filter (λ u. type_of day u == m) (below n)) (filter (λ u. type_of day u == m) (n ∷ []))))
          (All-append P (map (unit_legs day plan) (filter (λ u. type_of day u == m) (below n))) (map (unit_legs day plan) (filter (λ u. type_of day u == m) (n ∷ [])))
          (on n (λ u below. each u (omega (arith, below)))) (last (type_of day n == m) (each n (omega arith)))))
        where
          last : (b : Bool) → P (unit_legs day plan n) → All P (map (unit_legs day plan) (if b then n ∷ [] else []))
          last true here = All-cons P (unit_legs day plan n) [] here (All-nil P)
          last false here = All-nil P

  pub are_legs : AreLegs all
  are_legs = record {
    stations = is_day.timetable.station_count;
    units = omega (arith, length-map (filter (λ u. type_of day u == m) (below (unit_count day))) (unit_legs day plan), units_few (unit_count day), is_day.units.few);
    homes = each_unit (λ unit. unit.home < all.stations) (λ u known. is_day.units.home u known);
    few = each_unit (λ unit. length unit.legs ≤ MAX_TRIPS) (λ u known. unit_few u);
    each = each_unit (λ unit. All (IsLegAt all) unit.legs) (λ u known. unit_each u);
  }
