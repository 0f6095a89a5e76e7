-- Where the counts are never short, each trip finds enough units of each type in the yard; and at the end of the day
-- each yard has what is wanted.
use Rattle.std.proofs.Common.{◌≡◌, ℕ, ◌+◌, ◌<◌, ◌≤◌, List, [], ◌∷◌, length, Bool, true, false, cond, refl, ap, ◌∙◌}
use Rattle.std.proofs.Common.{subst, arith, inl, inr}
use Rattle.std.specs.Prelude.{if◌then◌else◌, ◌==◌, ◌&&◌, not, nat_le}
use Rattle.std.proofs.lemmas.Bool.{cases_eq, cond-true, false≢true, and_parts, and_from, leb-true, le-leb, eq-eqb}
use Rattle.timetable.specs.Accepted.{IsDay, AreLinks, IsStocked}
use Rattle.timetable.specs.Day.{Day, leaves, from_of, to_of, type_of, unit_count, wanted_of, ready_at}
use Rattle.timetable.specs.Links.{itself, taken_with}
use Rattle.timetable.specs.Lists.{count_of, has}
use Rattle.inventory.specs.Counts.{AreServed, takes_of, gives_of, taken_until, ready_until, all_taken, all_given}
use Rattle.inventory.specs.NamedUnits.{standing, may_be_taken, latest_first}
use Rattle.inventory.proofs.Sums.{one_same, one_other, sum_same, sum_le}
use Rattle.inventory.proofs.Order.{in_list, AreInTurn, leaves_before, before_leaves, is_there, is_trip, latest_in_turn}
use Rattle.inventory.proofs.Fetching.{is_free, free_count}
use Rattle.inventory.proofs.Linked.{AllHold}
use Rattle.inventory.proofs.Standing.{AreRight, le_has}
use Rattle.inventory.proofs.Yards.{list_sum, list_sum_below, tally, yard_count, takes_at, gives_at, yards, and_true}

pub trips_once : (day : Day) (done : List ℕ) → AreInTurn day done → (x : ℕ) → count_of x done ≤ 1
trips_once day [] turns x = omega arith
trips_once day (b ∷ before) turns x = elim (cases_eq b x) [
  | inl e ↦ let fresh = turns.0.fresh in let same = ap (λ y. count_of y before) e in let o = one_same b x e in omega arith
  | inr ne ↦ let rest = trips_once day before turns.1 x in let o = one_other b x ne in omega arith
]

pub trips_here : (day : Day) (done : List ℕ) → AreInTurn day done → (x : ℕ) → 1 ≤ count_of x done → x < length day.trips
trips_here day [] turns x c = absurd (omega arith)
trips_here day (b ∷ before) turns x c = elim (in_list x b before c) [
  | inl e ↦ subst (λ y. y < length day.trips) e turns.0.here
  | inr later ↦ trips_here day before turns.1 x later
]

pub all_hold : (day : Day) (types : List (List ℕ)) → AreServed day types → AllHold itself day types
all_hold day types served = record { holds = served.links }

if_if : (b c d : Bool) (n : ℕ) → (b ≡ true → c ≡ true → d ≡ true) → cond {A = ℕ} b (cond {A = ℕ} c n 0) 0 ≤ cond {A = ℕ} d n 0
if_if true true true n h = omega arith
if_if true true false n h = absurd (false≢true (h refl refl))
if_if true false d n h = omega arith
if_if false c d n h = omega arith

if_in : (b c : Bool) (n : ℕ) → (c ≡ true → b ≡ true) → cond {A = ℕ} c n 0 ≤ cond {A = ℕ} b (cond {A = ℕ} c n 0) 0
if_in true c n h = omega arith
if_in false true n h = absurd (false≢true (h refl))
if_in false false n h = omega arith

module _ (day : Day) (types : List (List ℕ)) (lists : ℕ → List ℕ) (links : AreLinks day) (is_day : IsDay day) (stocked : IsStocked day) (served : AreServed day types) where
  -- the takes of the trips up to one of them, and the gives that are ready for it
  takes_so_far : (b : ℕ) (before : List ℕ) → AreInTurn day (b ∷ before) → (m : ℕ)
      → list_sum (takes_at day types lists links is_day (from_of day b) m) (b ∷ before) ≤ taken_until day types (from_of day b) m (leaves day b)
  unfolding taken_until takes_at
  takes_so_far b before turns m =
      let e = list_sum_below (takes_at day types lists links is_day (from_of day b) m) (length day.trips) (b ∷ before) (trips_here day (b ∷ before) turns) (trips_once day (b ∷ before) turns) in
      let le = sum_le (λ t. if has t (b ∷ before) then takes_at day types lists links is_day (from_of day b) m t else 0)
      (λ t. if (from_of day t == from_of day b) && nat_le (leaves day t) (leaves day b) then takes_of day types m t else 0) (length day.trips)
      (λ t lt. if_if (has t (b ∷ before)) (from_of day t == from_of day b) ((from_of day t == from_of day b) && nat_le (leaves day t) (leaves day b)) (takes_of day types m t)
      (λ h k. and_from _ _ k (le-leb (leaves day t) (leaves day b) (early b before turns t (leb-true 1 (count_of t (b ∷ before)) h))))) in
      omega arith
    where
      early : (b : ℕ) (before : List ℕ) → AreInTurn day (b ∷ before) → (t : ℕ) → 1 ≤ count_of t (b ∷ before) → leaves day t ≤ leaves day b
      early b before turns t c = elim (in_list t b before c) [
        | inl e ↦ let same = ap (leaves day) e in omega arith
        | inr later ↦ before_leaves day t b (turns.0.earlier t later)
      ]

  gives_so_far : (b : ℕ) (before : List ℕ) → AreInTurn day (b ∷ before) → (m : ℕ)
      → ready_until day types (from_of day b) m (leaves day b) ≤ list_sum (gives_at day types lists links is_day (from_of day b) m (leaves day b)) before
  unfolding ready_until gives_at
  gives_so_far b before turns m =
      let e = list_sum_below (gives_at day types lists links is_day (from_of day b) m (leaves day b)) (length day.trips) before (trips_here day before turns.1) (trips_once day before turns.1) in
      let le = sum_le (λ t. if (to_of day t == from_of day b) && nat_le (ready_at day t) (leaves day b) then gives_of day types m t else 0)
      (λ t. if has t before then gives_at day types lists links is_day (from_of day b) m (leaves day b) t else 0) (length day.trips)
      (λ t lt. if_in (has t before) ((to_of day t == from_of day b) && nat_le (ready_at day t) (leaves day b)) (gives_of day types m t)
      (λ h. le_has t before (gave b before turns t lt (leb-true (ready_at day t) (leaves day b) (and_parts (to_of day t == from_of day b) (nat_le (ready_at day t) (leaves day b)) h).1)))) in
      omega arith
    where
      gave : (b : ℕ) (before : List ℕ) → AreInTurn day (b ∷ before) → (t : ℕ) → t < length day.trips → ready_at day t ≤ leaves day b → 1 ≤ count_of t before
      gave b before turns t lt ready = let travels = is_day.timetable.time t lt in turns.0.all t lt (leaves_before day t b (omega arith))

  takes_here : (b : ℕ) (before : List ℕ) (m : ℕ)
      → list_sum (takes_at day types lists links is_day (from_of day b) m) (b ∷ before) ≡ count_of m (taken_with itself day types b) + list_sum (takes_at day types lists links is_day (from_of day b) m) before
  unfolding list_sum takes_at
  takes_here b before m = let here = cond-true {A = ℕ} (from_of day b == from_of day b) (takes_of day types m b) 0 (eq-eqb (from_of day b) (from_of day b) refl) in omega arith

  as_free : (before : List ℕ) (s m minute : ℕ) → yard_count day types lists links is_day before s m minute ≡ free_count day (standing day types lists before) s minute [] m
  unfolding yard_count tally free_count is_free
  as_free before s m minute =
      sum_same (λ u. if type_of day u == m then (if may_be_taken s minute (standing day types lists before u) then 1 else 0) else 0)
      (λ u. if may_be_taken s minute (standing day types lists before u) && (type_of day u == m) && not (has u []) then 1 else 0) (unit_count day)
      (λ u lt. both (may_be_taken s minute (standing day types lists before u)) (type_of day u == m))
    where
      both : (b c : Bool) → cond {A = ℕ} c (cond {A = ℕ} b 1 0) 0 ≡ cond {A = ℕ} (b && c && true) 1 0
      both true true = refl
      both true false = refl
      both false true = refl
      both false false = refl

  -- so the yard has enough
  pub enough : (b : ℕ) (before : List ℕ) → AreInTurn day (b ∷ before) → AreRight day types lists before → (m : ℕ)
      → count_of m (taken_with itself day types b) ≤ free_count day (standing day types lists before) (from_of day b) (leaves day b) [] m
  enough b before turns rights m =
      let takes = takes_so_far b before turns m in
      let gives = gives_so_far b before turns m in
      let short = served.never_short (from_of day b) m (leaves day b) in
      let all = yards day types lists links is_day (all_hold day types served) stocked before turns.1 rights (from_of day b) m (leaves day b) (λ t c. before_leaves day t b (turns.0.earlier t c)) in
      let here = takes_here b before m in
      let free = as_free before (from_of day b) m (leaves day b) in
      omega arith

  -- ---- at the end of the day

  -- once all trips have run, the takes and the gives are all of them
  all_takes : (s m : ℕ) → list_sum (takes_at day types lists links is_day s m) (latest_first day) ≡ all_taken day types s m
  unfolding all_taken takes_at
  all_takes s m =
      list_sum_below (takes_at day types lists links is_day s m) (length day.trips) (latest_first day) (is_trip day) (trips_once day (latest_first day) (latest_in_turn day))
      ∙ sum_same (λ t. if has t (latest_first day) then takes_at day types lists links is_day s m t else 0) (λ t. if from_of day t == s then takes_of day types m t else 0) (length day.trips)
      (λ t lt. cond-true (has t (latest_first day)) (takes_at day types lists links is_day s m t) 0 (le_has t (latest_first day) (is_there day t lt)))

  all_gives : (s m minute : ℕ) → ((t : ℕ) → t < length day.trips → ready_at day t ≤ minute) → list_sum (gives_at day types lists links is_day s m minute) (latest_first day) ≡ all_given day types s m
  unfolding all_given gives_at
  all_gives s m minute late =
      list_sum_below (gives_at day types lists links is_day s m minute) (length day.trips) (latest_first day) (is_trip day) (trips_once day (latest_first day) (latest_in_turn day))
      ∙ sum_same (λ t. if has t (latest_first day) then gives_at day types lists links is_day s m minute t else 0) (λ t. if to_of day t == s then gives_of day types m t else 0) (length day.trips)
      (λ t lt. cond-true (has t (latest_first day)) (gives_at day types lists links is_day s m minute t) 0 (le_has t (latest_first day) (is_there day t lt))
      ∙ ap (λ (b : Bool). cond {A = ℕ} b (gives_of day types m t) 0) (and_true (to_of day t == s) (nat_le (ready_at day t) minute) (le-leb (ready_at day t) minute (late t lt))))

  -- then each yard has what is wanted
  pub all_stand : AreRight day types lists (latest_first day) → (minute : ℕ) → ((t : ℕ) → t < length day.trips → ready_at day t ≤ minute) → (s m : ℕ) → s < length day.stations → m < length day.types
      → yard_count day types lists links is_day (latest_first day) s m minute ≡ wanted_of day s m
  all_stand rights minute late s m station unit_type =
      let takes = all_takes s m in
      let gives = all_gives s m minute late in
      let ends = served.ends s m station unit_type in
      let all = yards day types lists links is_day (all_hold day types served) stocked (latest_first day) (latest_in_turn day) rights s m minute
      (λ t c. let lt = is_trip day t c in let travels = is_day.timetable.time t lt in let ready = late t lt in omega arith) in
      omega arith
