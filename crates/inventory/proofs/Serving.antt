-- The counts of the yards in a plan that runs are those of its units, one by one.
use Rattle.std.proofs.Common.{◌≡◌, ℕ, ◌+◌, ◌<◌, ◌≤◌, List, length, map, Bool, true, false, cond, refl, sym}
use Rattle.std.proofs.Common.{ap, ◌∙◌, arith}
use Rattle.std.specs.Prelude.{if◌then◌else◌, ◌==◌, ◌&&◌, nat_le}
use Rattle.std.proofs.lemmas.List.{length-map}
use Rattle.timetable.specs.Accepted.{IsDay, AreLinks, IsStocked}
use Rattle.timetable.specs.Admissible.{is_admissible}
use Rattle.timetable.specs.Day.{Day, leaves, from_of, to_of, home_of, type_of, types_of, unit_count, ready_at}
use Rattle.timetable.specs.Duties.{last_place}
use Rattle.timetable.specs.Links.{list_of, itself, given, taken, given_with, taken_with}
use Rattle.timetable.specs.Lists.{count_of, sum_below}
use Rattle.rules.proofs.OfTheStock.{ending}
use Rattle.timetable.specs.Running.{Runs, ending_of}
use Rattle.timetable.specs.Starts.{start_of}
use Rattle.timetable.proofs.ListedUnits.{list_of-types}
use Rattle.timetable.proofs.TypeRule.{link-map, given-map, taken-map}
use Rattle.timetable.proofs.AtHome.{at_home}
use Rattle.inventory.specs.Counts.{AreServed, taken_until, ready_until, all_taken, all_given}
use Rattle.inventory.proofs.Sums.{sum_same, sum_add, sum_le, sum_zero, sum_swap, sum_of_type}
use Rattle.inventory.proofs.Standing.{le_has}
use Rattle.inventory.proofs.Yards.{sum_if, both_if}
use Rattle.inventory.proofs.OnDuty.{takes_until, gives_until, takes_here, gives_here, taken_less, given_less}
use Rattle.inventory.proofs.OnDuty.{until_unit, here_unit}

-- ---- sums over trips, and over units

pub sum_when : (b : Bool) (f : ℕ → ℕ) (n : ℕ) → sum_below (λ t. if b then f t else 0) n ≡ cond {A = ℕ} b (sum_below f n) 0
sum_when true f n = refl
sum_when false f n = sum_zero (λ t. 0) n (λ t lt. refl)

le_when : (b : Bool) (p q r : ℕ) → p ≤ q + r → cond {A = ℕ} b p 0 ≤ cond {A = ℕ} b q 0 + cond {A = ℕ} b r 0
le_when true p q r le = le
le_when false p q r le = omega arith

-- units of a type in the lists of some trips, counted by trip and counted by unit
by_units : (type_of : ℕ → ℕ) (m n : ℕ) (passes : ℕ → Bool) (parts : ℕ → List ℕ) (trips : ℕ) → ((t u : ℕ) → 1 ≤ count_of u (parts t) → u < n)
    → sum_below (λ t. if passes t then count_of m (map type_of (parts t)) else 0) trips ≡ sum_below (λ u. if type_of u == m then sum_below (λ t. if passes t then count_of u (parts t) else 0) trips else 0) n
by_units type_of m n passes parts trips known =
    sum_same (λ t. if passes t then count_of m (map type_of (parts t)) else 0) (λ t. sum_below (λ u. if type_of u == m then (if passes t then count_of u (parts t) else 0) else 0) n) trips
    (λ t lt. sym (sum_if (λ u. type_of u == m) (passes t) (λ u. count_of u (parts t)) n ∙ ap (λ (k : ℕ). cond {A = ℕ} (passes t) k 0) (sum_of_type type_of m n (parts t) (known t))))
    ∙ sum_swap (λ t u. if type_of u == m then (if passes t then count_of u (parts t) else 0) else 0) trips n
    ∙ sum_same (λ u. sum_below (λ t. if type_of u == m then (if passes t then count_of u (parts t) else 0) else 0) trips)
    (λ u. if type_of u == m then sum_below (λ t. if passes t then count_of u (parts t) else 0) trips else 0) n
    (λ u lt. sum_when (type_of u == m) (λ t. if passes t then count_of u (parts t) else 0) trips)

module _ (day : Day) (plan : List (List ℕ)) (is_day : IsDay day) (links : AreLinks day) (stocked : IsStocked day) (runs : Runs day plan) where
  abbrev types : List (List ℕ)
  types = map (types_of day) plan

  -- ---- of types and of units

  known : (t u : ℕ) → 1 ≤ count_of u (list_of plan t) → u < unit_count day
  known t u c = runs.is_plan.units t u (le_has u (list_of plan t) c)

  abbrev takes : (ℕ → Bool) → ℕ → ℕ
  takes passes m = sum_below (λ t. if passes t then count_of m (taken_with itself day types t) else 0) (length day.trips)

  abbrev gives : (ℕ → Bool) → ℕ → ℕ
  gives passes m = sum_below (λ t. if passes t then count_of m (given_with itself day types t) else 0) (length day.trips)

  pub takes_by_units : (passes : ℕ → Bool) (m : ℕ)
      → takes passes m ≡ sum_below (λ u. if type_of day u == m then sum_below (λ t. if passes t then count_of u (taken day plan t) else 0) (length day.trips) else 0) (unit_count day)
  takes_by_units passes m =
      sum_same (λ t. if passes t then count_of m (taken_with itself day types t) else 0) (λ t. if passes t then count_of m (types_of day (taken day plan t)) else 0) (length day.trips)
      (λ t lt. ap (λ (us : List ℕ). cond {A = ℕ} (passes t) (count_of m us) 0) (taken-map (type_of day) day plan runs.links t))
      ∙ by_units (type_of day) m (unit_count day) passes (λ t. taken day plan t) (length day.trips) (λ t u c. known t u (let less = taken_less day plan is_day links runs t u in omega arith))

  pub gives_by_units : (passes : ℕ → Bool) (m : ℕ)
      → gives passes m ≡ sum_below (λ u. if type_of day u == m then sum_below (λ t. if passes t then count_of u (given day plan t) else 0) (length day.trips) else 0) (unit_count day)
  gives_by_units passes m =
      sum_same (λ t. if passes t then count_of m (given_with itself day types t) else 0) (λ t. if passes t then count_of m (types_of day (given day plan t)) else 0) (length day.trips)
      (λ t lt. ap (λ (us : List ℕ). cond {A = ℕ} (passes t) (count_of m us) 0) (given-map (type_of day) day plan runs.links t))
      ∙ by_units (type_of day) m (unit_count day) passes (λ t. given day plan t) (length day.trips) (λ t u c. known t u (let less = given_less day plan is_day links runs t u in omega arith))

  -- ---- the yards

  never_short : (s m minute : ℕ) → taken_until day types s m minute ≤ start_of day s m + ready_until day types s m minute
  unfolding taken_until ready_until
  never_short s m minute =
      let here : ℕ → ℕ = λ u. if home_of day u == s then 1 else 0 in
      let took : ℕ → ℕ = λ u. sum_below (takes_until day plan is_day links runs s minute u) (length day.trips) in
      let gave : ℕ → ℕ = λ u. sum_below (gives_until day plan is_day links runs s minute u) (length day.trips) in
      let t = takes_by_units (λ t. (from_of day t == s) && nat_le (leaves day t) minute) m in
      let g = gives_by_units (λ t. (to_of day t == s) && nat_le (ready_at day t) minute) m in
      let start = at_home day s m stocked in
      let units : sum_below (λ u. if type_of day u == m then took u else 0) (unit_count day)
      ≤ sum_below (λ u. (if type_of day u == m then here u else 0) + (if type_of day u == m then gave u else 0)) (unit_count day) =
      sum_le (λ u. if type_of day u == m then took u else 0) (λ u. (if type_of day u == m then here u else 0) + (if type_of day u == m then gave u else 0)) (unit_count day)
      (λ u lt. le_when (type_of day u == m) (took u) (here u) (gave u) (until_unit day plan is_day links runs s minute u lt)) in
      let both : sum_below (λ u. (if type_of day u == m then here u else 0) + (if type_of day u == m then gave u else 0)) (unit_count day)
      ≡ sum_below (λ u. if type_of day u == m then here u else 0) (unit_count day) + sum_below (λ u. if type_of day u == m then gave u else 0) (unit_count day) =
      sum_add (λ u. if type_of day u == m then here u else 0) (λ u. if type_of day u == m then gave u else 0) (unit_count day) in
      omega arith

  both_tests : (b c : Bool) → cond {A = ℕ} (b && c) 1 0 ≡ cond {A = ℕ} c (cond {A = ℕ} b 1 0) 0
  both_tests true true = refl
  both_tests true false = refl
  both_tests false true = refl
  both_tests false false = refl

  at_end : (s m : ℕ) → start_of day s m + all_given day types s m ≡ ending day plan s m + all_taken day types s m
  unfolding all_given all_taken ending_of
  at_end s m =
      let here : ℕ → ℕ = λ u. if home_of day u == s then 1 else 0 in
      let last : ℕ → ℕ = λ u. if last_place day plan u == s then 1 else 0 in
      let took : ℕ → ℕ = λ u. sum_below (takes_here day plan is_day links runs s u) (length day.trips) in
      let gave : ℕ → ℕ = λ u. sum_below (gives_here day plan is_day links runs s u) (length day.trips) in
      let t = takes_by_units (λ t. from_of day t == s) m in
      let g = gives_by_units (λ t. to_of day t == s) m in
      let start = at_home day s m stocked in
      let units : sum_below (λ u. (if type_of day u == m then here u else 0) + (if type_of day u == m then gave u else 0)) (unit_count day)
      ≡ sum_below (λ u. (if type_of day u == m then last u else 0) + (if type_of day u == m then took u else 0)) (unit_count day) =
      sum_same (λ u. (if type_of day u == m then here u else 0) + (if type_of day u == m then gave u else 0)) (λ u. (if type_of day u == m then last u else 0) + (if type_of day u == m then took u else 0)) (unit_count day)
      (λ u lt. both_if (type_of day u == m) (here u) (gave u) (last u) (took u) (here_unit day plan is_day links runs s u lt)) in
      let before : sum_below (λ u. (if type_of day u == m then here u else 0) + (if type_of day u == m then gave u else 0)) (unit_count day)
      ≡ sum_below (λ u. if type_of day u == m then here u else 0) (unit_count day) + sum_below (λ u. if type_of day u == m then gave u else 0) (unit_count day) =
      sum_add (λ u. if type_of day u == m then here u else 0) (λ u. if type_of day u == m then gave u else 0) (unit_count day) in
      let after : sum_below (λ u. (if type_of day u == m then last u else 0) + (if type_of day u == m then took u else 0)) (unit_count day)
      ≡ sum_below (λ u. if type_of day u == m then last u else 0) (unit_count day) + sum_below (λ u. if type_of day u == m then took u else 0) (unit_count day) =
      sum_add (λ u. if type_of day u == m then last u else 0) (λ u. if type_of day u == m then took u else 0) (unit_count day) in
      let ends : sum_below (λ u. if (last_place day plan u == s) && (type_of day u == m) then 1 else 0) (unit_count day) ≡ sum_below (λ u. if type_of day u == m then last u else 0) (unit_count day) =
      sum_same (λ u. if (last_place day plan u == s) && (type_of day u == m) then 1 else 0) (λ u. if type_of day u == m then last u else 0) (unit_count day)
      (λ u lt. both_tests (last_place day plan u == s) (type_of day u == m)) in
      omega arith

  pub served : AreServed day (map (types_of day) plan)
  served = record {
    trips = length-map plan (types_of day) ∙ runs.is_plan.trips;
    admissible = λ t lt. ap (λ (us : List ℕ). is_admissible day t us) (list_of-types day plan t) ∙ (runs.lists t lt).admissible;
    links = λ l link at. link-map (type_of day) link plan (runs.links l link at);
    never_short = never_short;
    ends = λ s m there known. at_end s m ∙ ap (λ (k : ℕ). k + all_taken day (map (types_of day) plan) s m) (runs.balance s m there known);
  }
