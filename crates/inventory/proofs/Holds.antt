-- A table that was filled holds the counts of the yards.
use Rattle.std.proofs.Common.{◌≡◌, ℕ, zero, suc, ◌+◌, ◌*◌, ◌<◌, ◌≤◌, List, [], ◌∷◌, length, map, replicate, get_or}
use Rattle.std.proofs.Common.{Bool, true, false, cond, Option, Some, None, refl, sym, ap, subst, ◌∙◌, arith, inl, inr}
use Rattle.std.proofs.Common.{pos, negsuc, ℤ, ◌-ℤ◌, length-append}
use Rattle.std.specs.Prelude.{if◌then◌else◌, ◌==◌, ◌&&◌, nat_le, nat_lt, unwrap_or, option_map}
use Rattle.std.proofs.lemmas.Bool.{cases_Bool, cond-true, cond-false, lt-ltb, eqb-true}
use Rattle.std.proofs.lemmas.List.{length-map, length-replicate}
use Rattle.std.proofs.lemmas.Int.{ints}
use Rattle.std.proofs.lemmas.Option.{get_or_from_slice_get}
use Rattle.rules.specs.declared.records.Link.{Link}
use Rattle.rules.specs.declared.records.LinkKind.{LinkKind}
use Rattle.rules.specs.declared.records.LinkKind.TheVariants.{Turn, Join, Split}
use Rattle.rules.specs.declared.records.Stock.{Stock}
use Rattle.rules.specs.declared.records.Unit as unit
use Rattle.timetable.specs.Accepted.{IsDay}
use Rattle.timetable.specs.Day.{Day, leaves, from_of, to_of, units_in, units_of, ready_at}
use Rattle.timetable.specs.Links.{list_of, itself, given_with, taken_with, given_by, taken_by, link_out, link_into}
use Rattle.timetable.specs.Lists.{sum_below}
use Rattle.timetable.specs.Minutes.{minutes_of}
use Rattle.timetable.specs.Starts.{start_in, start_of}
use Rattle.timetable.specs.Turns.{kept_length, turn_parts}
use Rattle.timetable.proofs.Listing.{length-listed, get_listed}
use Rattle.timetable.proofs.Minutes.{are_minutes, few_minutes_of}
use Rattle.inventory.specs.CountTable.{plus, earlier, sums_from, sums_for, all_sums, changed, changed_for, with_given}
use Rattle.inventory.specs.CountTable.{with_trips, zeros, zeros_for, zero_table, cleared, MoveFew}
use Rattle.inventory.specs.Counted.{counts_of, number_at, HasPlaces, IsCountTable}
use Rattle.inventory.specs.Counts.{takes_of, gives_of, taken_until, ready_until, all_taken, all_given}
use Rattle.inventory.proofs.Sums.{sum_same}
use Rattle.inventory.proofs.Tables.{at_place, changed_places, trips_are}
use Rattle.inventory.proofs.Filled.{sums_at, summed_at, place_le, place_within, noted_below}

-- ---- the shape of a table

length-sums_from : (x : ℤ) (counts : List ℤ) → length (sums_from x counts) ≡ length counts
length-sums_from x [] = refl
length-sums_from x (count ∷ counts) = ap suc (length-sums_from (plus x count) counts)

length-sums_for : (day : Day) (s m : ℕ) (types : List (List ℤ)) → length (sums_for day s m types) ≡ length types
length-sums_for day s m [] = refl
length-sums_for day s m (counts ∷ types) = ap suc (length-sums_for day s (suc m) types)

length-all_sums : (day : Day) (s : ℕ) (table : List (List (List ℤ))) → length (all_sums day s table) ≡ length table
length-all_sums day s [] = refl
length-all_sums day s (types ∷ table) = ap suc (length-all_sums day (suc s) table)

types_summed : (day : Day) (s0 s : ℕ) (table : List (List (List ℤ))) → length (get_or (all_sums day s0 table) s []) ≡ length (get_or table s [])
types_summed day s0 s [] = refl
types_summed day s0 zero (types ∷ table) = length-sums_for day s0 0 types
types_summed day s0 (suc s) (types ∷ table) = types_summed day (suc s0) s table

summed_places : (day : Day) (T : List (List (List ℤ))) → HasPlaces day T → HasPlaces day (all_sums day 0 T)
summed_places day T places = record {
  stations = length-all_sums day 0 T ∙ places.stations;
  types = λ s lt. types_summed day 0 s T ∙ places.types s lt;
  minutes = λ s m lt lt'.
      ap length (summed_at day s m T (let n = places.stations in omega arith) (let n = places.types s lt in omega arith))
      ∙ length-sums_from _ (counts_of T s m) ∙ places.minutes s m lt lt';
}

-- an entry of a list of lists of which each is changed
pub map_entry : {X Y : Type 0} (f : List X → List Y) (xs : List (List X)) (i : ℕ) → f [] ≡ [] → get_or (map f xs) i [] ≡ f (get_or xs i [])
map_entry f [] i e = sym e
map_entry f (x ∷ xs) zero e = refl
map_entry f (x ∷ xs) (suc i) e = map_entry f xs i e

pub zero_entry : (xs : List ℤ) (k : ℕ) → get_or (map (λ (_ : ℤ). pos 0) xs) k (pos 0) ≡ pos 0
zero_entry [] k = refl
zero_entry (x ∷ xs) zero = refl
zero_entry (x ∷ xs) (suc k) = zero_entry xs k

cleared_counts : (T : List (List (List ℤ))) (s m : ℕ) → counts_of (cleared T) s m ≡ map (λ _. pos 0) (counts_of T s m)
cleared_counts T s m =
    ap (λ (types : List (List ℤ)). get_or types m []) (map_entry (map (map (λ (_ : ℤ). pos 0))) T s refl)
    ∙ map_entry (map (λ (_ : ℤ). pos 0)) (get_or T s []) m refl

cleared_zero : (T : List (List (List ℤ))) (s m k : ℕ) → number_at (cleared T) s m k ≡ pos 0
cleared_zero T s m k = ap (λ (counts : List ℤ). get_or counts k (pos 0)) (cleared_counts T s m) ∙ zero_entry (counts_of T s m) k

cleared_places : (day : Day) (T : List (List (List ℤ))) → HasPlaces day T → HasPlaces day (cleared T)
cleared_places day T places = record {
  stations = length-map T (map (map (λ (_ : ℤ). pos 0))) ∙ places.stations;
  types = λ s lt. ap length (map_entry (map (map (λ (_ : ℤ). pos 0))) T s refl) ∙ length-map (get_or T s []) (map (λ (_ : ℤ). pos 0)) ∙ places.types s lt;
  minutes = λ s m lt lt'. ap length (cleared_counts T s m) ∙ length-map (counts_of T s m) (λ (_ : ℤ). pos 0) ∙ places.minutes s m lt lt';
}

same_entry : {X : Type 0} (n k : ℕ) (x d : X) → k < n → get_or (replicate n x) k d ≡ x
same_entry zero k x d lt = absurd (omega arith)
same_entry (suc n) zero x d lt = refl
same_entry (suc n) (suc k) x d lt = same_entry n k x d (omega arith)

pub zero_places : (day : Day) → HasPlaces day (zero_table day)
zero_places day = record {
  stations = length-listed zeros_at (length day.stations);
  types = λ s lt. ap length (at s lt) ∙ length-replicate (length day.types) (zeros (length (minutes_of day s)));
  minutes = λ s m lt lt'.
      ap length (ap (λ (types : List (List ℤ)). get_or types m []) (at s lt) ∙ same_entry (length day.types) m (zeros (length (minutes_of day s))) [] lt')
      ∙ length-replicate (length (minutes_of day s) + 1) (pos 0);
}
  where
    zeros_at : ℕ → List (List ℤ)
    zeros_at s = zeros_for (length day.types) (length (minutes_of day s))

    at : (s : ℕ) → s < length day.stations → get_or (zero_table day) s [] ≡ zeros_for (length day.types) (length (minutes_of day s))
    at s lt = get_or_from_slice_get (zero_table day) s (zeros_for (length day.types) (length (minutes_of day s))) [] (get_listed (λ s. zeros_for (length day.types) (length (minutes_of day s))) (length day.stations) s lt)

-- ---- units at the start

start_few : (rows : List Stock) (s m : ℕ) → start_in rows s m ≤ length (units_in rows)
start_few [] s m = omega arith
start_few (row ∷ rows) s m =
    let rest = start_few rows s m in
    let units : List unit.Unit = replicate row.start (record { unit_type = row.unit_type; home = row.station }) in
    let whole : length (units_in (row ∷ rows)) ≡ length units + length (units_in rows) = length-append units (units_in rows) in
    let first : length units ≡ row.start = length-replicate row.start (record { unit_type = row.unit_type; home = row.station }) in
    elim (cases_Bool ((row.station == s) && (row.unit_type == m))) [
      | inl is ↦ let e : start_in (row ∷ rows) s m ≡ row.start = cond-true {A = ℕ} ((row.station == s) && (row.unit_type == m)) row.start (start_in rows s m) is in omega arith
      | inr isnt ↦ let e : start_in (row ∷ rows) s m ≡ start_in rows s m = cond-false {A = ℕ} ((row.station == s) && (row.unit_type == m)) row.start (start_in rows s m) isnt in omega arith
    ]

-- a yard has few units at the start
pub few_start : (day : Day) → IsDay day → (s m : ℕ) → start_of day s m ≤ 2000
unfolding start_of units_of
few_start day is_day s m = let few = start_few day.stock s m in let units = is_day.units.few in omega arith

-- ---- the counts

module _ (day : Day) (is_day : IsDay day) (lists : List (List ℕ)) (T : List (List (List ℤ))) (places : HasPlaces day T) (few : (t : ℕ) → t < length day.trips → MoveFew day lists t) where
  abbrev noted : List (List (List ℤ))
  noted = with_trips day lists (length day.trips) (cleared T)

  abbrev given_in : ℕ → ℕ → ℕ → ℕ
  given_in s m j = sum_below (λ t. at_place (to_of day t) (earlier (ready_at day t) (minutes_of day (to_of day t))) s j (gives_of day lists m t)) (length day.trips)

  abbrev taken_in : ℕ → ℕ → ℕ → ℕ
  taken_in s m j = sum_below (λ t. at_place (from_of day t) (earlier (leaves day t) (minutes_of day (from_of day t))) s j (takes_of day lists m t)) (length day.trips)

  changed_for_places : (s k : ℕ) (x : ℤ) (ms : List ℕ) (U : List (List (List ℤ))) → HasPlaces day U → HasPlaces day (changed_for s k x ms U)
  changed_for_places s k x [] U h = h
  changed_for_places s k x (m ∷ ms) U h = changed_for_places s k x ms (changed s m k x U) (changed_places day U h s m k x)

  with_trips_places : (n : ℕ) → HasPlaces day (with_trips day lists n (cleared T))
  with_trips_places zero = cleared_places day T places
  with_trips_places (suc n) =
      changed_for_places (from_of day n) (earlier (leaves day n) (minutes_of day (from_of day n))) (negsuc 0) (taken_with itself day lists n) (with_given day lists n (with_trips day lists n (cleared T)))
      (changed_for_places (to_of day n) (earlier (ready_at day n) (minutes_of day (to_of day n))) (pos 1) (given_with itself day lists n) (with_trips day lists n (cleared T)) (with_trips_places n))

  noted_are : (s m k : ℕ) → s < length day.stations → m < length day.types → k ≤ length (minutes_of day s)
      → (number_at noted s m k ≡ pos (given_in s m k) -ℤ pos (taken_in s m k)) × HasPlaces day noted × (given_in s m k ≤ 6 * length day.trips) × (taken_in s m k ≤ 6 * length day.trips)
  noted_are s m k lt lt' le = trips_are day s m k lt lt' le lists (length day.trips) (cleared T) few (let n = is_day.timetable.trip_count in omega arith) (cleared_places day T places) (cleared_zero T s m k)

  no_more : (f : ℕ → ℕ) (bound n : ℕ) → ((j : ℕ) → j < n → f j ≤ bound) → sum_below f n ≤ bound * n
  no_more f bound zero le = omega arith
  no_more f bound (suc n) le = let rest = no_more f bound n (λ j lt. le j (omega arith)) in let last = le n (omega arith) in let e : bound * suc n ≡ bound * n + bound = omega arith in omega arith

  summed : (s m k : ℕ) → s < length day.stations → m < length day.types → k ≤ length (minutes_of day s)
      → number_at (all_sums day 0 noted) s m k ≡ pos (start_of day s m + sum_below (given_in s m) (suc k)) -ℤ pos (sum_below (taken_in s m) (suc k))
  summed s m k lt lt' le =
      let there : HasPlaces day noted = (noted_are s m k lt lt' le).1 in
      let long : length (counts_of noted s m) ≡ length (minutes_of day s) + 1 = there.minutes s m lt lt' in
      let few_trips = is_day.timetable.trip_count in
      let few_minutes = few_minutes_of day s in
      let start = few_start day is_day s m in
      let given : sum_below (given_in s m) (suc k) ≤ 2400 * suc k = no_more (given_in s m) 2400 (suc k) (λ j less. let small = (noted_are s m j lt lt' (omega arith)).2 in omega arith) in
      let taken : sum_below (taken_in s m) (suc k) ≤ 2400 * suc k = no_more (taken_in s m) 2400 (suc k) (λ j less. let small = (noted_are s m j lt lt' (omega arith)).3 in omega arith) in
      let none : pos (start_of day s m) ≡ pos (start_of day s m) -ℤ pos 0 = omega (arith, ints) in
      let zero_more : 0 + sum_below (taken_in s m) (suc k) ≡ sum_below (taken_in s m) (suc k) = omega arith in
      ap (λ (counts : List ℤ). get_or counts k (pos 0)) (summed_at day s m noted (let n = there.stations in omega arith) (let n = there.types s lt in omega arith))
      ∙ ap (λ (x : ℤ). get_or (sums_from x (counts_of noted s m)) k (pos 0)) none
      ∙ sums_at (given_in s m) (taken_in s m) (start_of day s m) 0 (counts_of noted s m) k (omega arith) (λ j less. (noted_are s m j lt lt' (omega arith)).0) (omega arith) (omega arith)
      ∙ ap (λ (n : ℕ). pos (start_of day s m + sum_below (given_in s m) (suc k)) -ℤ pos n) zero_more

  -- up to a departure minute, and up to the end
  when : (b c d : Bool) (n : ℕ) → (b ≡ true → c ≡ d) → cond {A = ℕ} (b && c) n 0 ≡ cond {A = ℕ} (b && d) n 0
  when true c d n e = ap (λ (x : Bool). cond {A = ℕ} x n 0) (e refl)
  when false c d n e = refl

  always : (b c : Bool) (n : ℕ) → (b ≡ true → c ≡ true) → cond {A = ℕ} (b && c) n 0 ≡ cond {A = ℕ} b n 0
  always true c n e = ap (λ (x : Bool). cond {A = ℕ} x n 0) (e refl)
  always false c n e = refl

  up_to_minute : (at moment amount : ℕ → ℕ) (s k : ℕ) → k < length (minutes_of day s)
      → sum_below (λ j. sum_below (λ t. at_place (at t) (earlier (moment t) (minutes_of day (at t))) s j (amount t)) (length day.trips)) (suc k)
      ≡ sum_below (λ t. if (at t == s) && nat_le (moment t) (get_or (minutes_of day s) k 0) then amount t else 0) (length day.trips)
  up_to_minute at moment amount s k less =
      noted_below at (λ t. earlier (moment t) (minutes_of day (at t))) amount s (suc k) (length day.trips)
      ∙ sum_same (λ t. if (at t == s) && nat_lt (earlier (moment t) (minutes_of day (at t))) (suc k) then amount t else 0)
      (λ t. if (at t == s) && nat_le (moment t) (get_or (minutes_of day s) k 0) then amount t else 0) (length day.trips)
      (λ t lt. when (at t == s) (nat_lt (earlier (moment t) (minutes_of day (at t))) (suc k)) (nat_le (moment t) (get_or (minutes_of day s) k 0)) (amount t)
      (λ is. ap (λ (r : ℕ). nat_lt (earlier (moment t) (minutes_of day r)) (suc k)) (eqb-true (at t) s is) ∙ place_le (minutes_of day s) (moment t) k (are_minutes day s).rise less))

  up_to_end : (at moment amount : ℕ → ℕ) (s : ℕ)
      → sum_below (λ j. sum_below (λ t. at_place (at t) (earlier (moment t) (minutes_of day (at t))) s j (amount t)) (length day.trips)) (suc (length (minutes_of day s)))
      ≡ sum_below (λ t. if at t == s then amount t else 0) (length day.trips)
  up_to_end at moment amount s =
      noted_below at (λ t. earlier (moment t) (minutes_of day (at t))) amount s (suc (length (minutes_of day s))) (length day.trips)
      ∙ sum_same (λ t. if (at t == s) && nat_lt (earlier (moment t) (minutes_of day (at t))) (suc (length (minutes_of day s))) then amount t else 0)
      (λ t. if at t == s then amount t else 0) (length day.trips)
      (λ t lt. always (at t == s) (nat_lt (earlier (moment t) (minutes_of day (at t))) (suc (length (minutes_of day s)))) (amount t)
      (λ is. ap (λ (r : ℕ). nat_lt (earlier (moment t) (minutes_of day r)) (suc (length (minutes_of day s)))) (eqb-true (at t) s is)
      ∙ lt-ltb (earlier (moment t) (minutes_of day s)) (suc (length (minutes_of day s))) (let within = place_within (minutes_of day s) (moment t) in omega arith)))

  pub filled : IsCountTable day lists (all_sums day 0 noted)
  unfolding taken_until ready_until all_taken all_given
  filled = record {
    places = summed_places day noted (with_trips_places (length day.trips));
    counts = λ s m k lt lt' less.
        summed s m k lt lt' (omega arith)
        ∙ ap (λ (n : ℕ). pos (start_of day s m + n) -ℤ pos (sum_below (taken_in s m) (suc k))) (up_to_minute (to_of day) (ready_at day) (gives_of day lists m) s k less)
        ∙ ap (λ (n : ℕ). pos (start_of day s m + ready_until day lists s m (get_or (minutes_of day s) k 0)) -ℤ pos n) (up_to_minute (from_of day) (leaves day) (takes_of day lists m) s k less);
    ends = λ s m lt lt'.
        summed s m (length (minutes_of day s)) lt lt' (omega arith)
        ∙ ap (λ (n : ℕ). pos (start_of day s m + n) -ℤ pos (sum_below (taken_in s m) (suc (length (minutes_of day s))))) (up_to_end (to_of day) (ready_at day) (gives_of day lists m) s)
        ∙ ap (λ (n : ℕ). pos (start_of day s m + all_given day lists s m) -ℤ pos n) (up_to_end (from_of day) (leaves day) (takes_of day lists m) s);
  }

-- ---- before a load

none_listed : (t : ℕ) → list_of [] t ≡ []
unfolding list_of
none_listed t = refl

none_given : (day : Day) (t : ℕ) → given_with itself day [] t ≡ []
unfolding given_with list_of kept_length turn_parts
none_given day t = by_link (link_out day t)
  where
    by_kind : (kind : LinkKind) (r : Bool) → given_by itself kind r [] ≡ []
    by_kind (Turn a b uncouple couple exchange) true = refl
    by_kind (Turn a b uncouple couple exchange) false = refl
    by_kind (Join a1 a2 b) r = refl
    by_kind (Split a b1 b2) r = refl

    by_link : (o : Option Link) → unwrap_or (option_map (λ (link : Link). given_by itself link.kind link.reverse []) o) (list_of [] t) ≡ []
    by_link None = none_listed t
    by_link (Some link) = by_kind link.kind link.reverse

none_taken : (day : Day) (t : ℕ) → taken_with itself day [] t ≡ []
unfolding taken_with list_of kept_length turn_parts
none_taken day t = by_link (link_into day t)
  where
    by_kind : (kind : LinkKind) (r : Bool) → taken_by itself kind r [] ≡ []
    by_kind (Turn a b uncouple couple exchange) true = refl
    by_kind (Turn a b uncouple couple exchange) false = refl
    by_kind (Join a1 a2 b) r = refl
    by_kind (Split a b1 b2) r = refl

    by_link : (o : Option Link) → unwrap_or (option_map (λ (link : Link). taken_by itself link.kind link.reverse []) o) (list_of [] t) ≡ []
    by_link None = none_listed t
    by_link (Some link) = by_kind link.kind link.reverse

none_noted : (day : Day) (n : ℕ) (T : List (List (List ℤ))) → with_trips day [] n T ≡ T
none_noted day zero T = refl
none_noted day (suc n) T =
    ap (λ (ms : List ℕ). changed_for (from_of day n) (earlier (leaves day n) (minutes_of day (from_of day n))) (negsuc 0) ms (with_given day [] n (with_trips day [] n T))) (none_taken day n)
    ∙ ap (λ (ms : List ℕ). changed_for (to_of day n) (earlier (ready_at day n) (minutes_of day (to_of day n))) (pos 1) ms (with_trips day [] n T)) (none_given day n)
    ∙ none_noted day n T

none_moves : (day : Day) (t : ℕ) → MoveFew day [] t
none_moves day t = record { given = let e = ap length (none_given day t) in omega arith; taken = let e = ap length (none_taken day t) in omega arith }

pub filled_with_none : (day : Day) → IsDay day → (T : List (List (List ℤ))) → HasPlaces day T → IsCountTable day [] (all_sums day 0 (cleared T))
filled_with_none day is_day T places =
    subst (λ (U : List (List (List ℤ))). IsCountTable day [] (all_sums day 0 U)) (none_noted day (length day.trips) (cleared T))
    (filled day is_day [] T places (λ t lt. none_moves day t))
