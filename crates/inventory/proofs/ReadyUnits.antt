-- The count of a yard is the number of units that stand ready in it.
use Rattle.std.proofs.Common.{◌≡◌, ℕ, ◌+◌, ◌<◌, ◌≤◌, List, [], ◌∷◌, length, map, Bool, true, false, cond, refl, sym, ap}
use Rattle.std.proofs.Common.{◌∙◌, arith, ⊎_elim, inl, inr}
use Rattle.std.specs.Prelude.{if◌then◌else◌, ◌==◌, ◌&&◌, nat_le, nat_lt, IsTrue, filter}
use Rattle.std.proofs.lemmas.Bool.{cases_lt, cases_Bool, cond-true, cond-false, leb-true, le-leb, ltb-true}
use Rattle.std.proofs.lemmas.Bool.{ltb-false, lt-leb}
use Rattle.std.proofs.lemmas.Int.{ints}
use Rattle.timetable.specs.Accepted.{IsDay, AreLinks, IsStocked}
use Rattle.timetable.specs.Day.{Day, leaves, from_of, to_of, home_of, type_of, types_of, unit_count, ready_at}
use Rattle.timetable.specs.Duties.{duty}
use Rattle.timetable.specs.Links.{kept, given, taken}
use Rattle.timetable.specs.Lists.{count_of, has, sum_below}
use Rattle.rules.proofs.OfTheStock.{MayFollow, GoesByYard}
use Rattle.timetable.specs.Running.{Runs, EachFollows, BeginsAt}
use Rattle.timetable.specs.Starts.{start_of}
use Rattle.timetable.proofs.AtHome.{at_home}
use Rattle.inventory.specs.Counts.{taken_until, ready_until}
use Rattle.inventory.specs.NamedBefore.{duty_before}
use Rattle.inventory.specs.ReadyUnits.{stands_ready, ready_units, YardsHoldReadyUnits}
use Rattle.inventory.proofs.Earlier.{early_begins, early_follows, all_late}
use Rattle.inventory.proofs.OnDuty.{last_of_duty, filter_out, stays, given_less, taken_less, once, first_takes, of_duty}
use Rattle.inventory.proofs.OnDuty.{duty_within, takes_until, gives_until, here_step, takes_here, gives_here}
use Rattle.inventory.proofs.Order.{InLine, duty_in_line}
use Rattle.inventory.proofs.Serving.{takes_by_units, gives_by_units}
use Rattle.inventory.proofs.Sums.{one_same, sum_same, sum_add}
use Rattle.inventory.proofs.Yards.{list_sum, cond_zero}

-- ---- choices

chosen : (b c : Bool) (n : ℕ) → c ≡ true → cond {A = ℕ} (b && c) n 0 ≡ cond {A = ℕ} b n 0
chosen true c n is = cond-true {A = ℕ} c n 0 is
chosen false c n is = refl

-- a number of at most one, under a test
told : (n : ℕ) (b c : Bool) → n ≤ 1 → cond {A = ℕ} (b && c) n 0 ≡ cond {A = ℕ} (nat_le 1 n && b && c) 1 0
told n true true few = elim (cases_lt 0 n) [
  | inl some ↦ let one = cond-true {A = ℕ} (nat_le 1 n && true && true) 1 0 (both (le-leb 1 n (omega arith))) in omega arith
  | inr none ↦ let zero = cond-false {A = ℕ} (nat_le 1 n && true && true) 1 0 (neither (lt-leb 1 n (omega arith))) in omega arith
]
  where
    both : {a : Bool} → a ≡ true → a && true && true ≡ true
    both e = ap (λ (a : Bool). a && true && true) e

    neither : {a : Bool} → a ≡ false → a && true && true ≡ false
    neither e = ap (λ (a : Bool). a && true && true) e
told n true false few = none (nat_le 1 n)
  where
    none : (a : Bool) → 0 ≡ cond {A = ℕ} (a && true && false) 1 0
    none true = refl
    none false = refl
told n false c few = none (nat_le 1 n)
  where
    none : (a : Bool) → 0 ≡ cond {A = ℕ} (a && false && c) 1 0
    none true = refl
    none false = refl

-- ---- sums along trips

-- what is nothing on trips that fail a test, is of those that pass it alone
sum_passing : (f : ℕ → ℕ) (p : ℕ → Bool) (ts : List ℕ) → ((t : ℕ) → 1 ≤ count_of t ts → p t ≡ false → f t ≡ 0) → list_sum f ts ≡ list_sum f (filter p ts)
unfolding list_sum
sum_passing f p [] none = refl
sum_passing f p (t ∷ ts) none =
    let one = one_same t t refl in
    let rest = sum_passing f p ts (λ x c. none x (omega arith)) in
    elim (cases_Bool (p t)) [
      | inl passes ↦ let all = ap (list_sum f) (cond-true (p t) (t ∷ filter p ts) (filter p ts) passes) in omega arith
      | inr fails ↦
          let zero = none t (omega arith) fails in
          let all = ap (list_sum f) (cond-false (p t) (t ∷ filter p ts) (filter p ts) fails) in
          omega arith
    ]

-- sums along trips that follow one another, where each step to an early trip is balanced
steps_early : (R : ℕ → ℕ → Type 0) (early : ℕ → Type 0) (takes gives : ℕ → ℕ) → ((a b : ℕ) → early b → R a b → takes b ≡ gives a) → (a : ℕ) (ts : List ℕ) → ((t : ℕ) → 1 ≤ count_of t ts → early t) → EachFollows R (a ∷ ts)
    → list_sum takes ts + gives (last_of_duty a ts) ≡ list_sum gives (a ∷ ts)
unfolding list_sum
steps_early R early takes gives step a [] all h = omega arith
steps_early R early takes gives step a (b ∷ ts) all h =
    let one = one_same b b refl in
    let first = step a b (all b (omega arith)) h.0 in
    let rest = steps_early R early takes gives step b ts (λ t c. all t (omega arith)) h.1 in
    omega arith

module _ (day : Day) (plan : List (List ℕ)) (is_day : IsDay day) (links : AreLinks day) (runs : Runs day plan) (s minute : ℕ) where
  abbrev takes : ℕ → ℕ → ℕ
  takes u = takes_until day plan is_day links runs s minute u

  abbrev gives : ℕ → ℕ → ℕ
  gives u = gives_until day plan is_day links runs s minute u

  abbrev is_early : ℕ → Bool
  is_early t = nat_lt (leaves day t) (minute + 1)

  abbrev early : ℕ → List ℕ
  early u = duty_before day plan (minute + 1) u

  abbrev here : ℕ → ℕ
  here u = if home_of day u == s then 1 else 0

  -- a step to a trip that has left
  step : (u a b : ℕ) → leaves day b ≤ minute → MayFollow day plan u a b → takes u b ≡ gives u a
  step u a b left follows = ⊎_elim
      (λ (in_train : IsTrue (has u (kept day plan a b))).
      let none = stays day plan is_day links runs a b u (leb-true 1 (count_of u (kept day plan a b)) in_train) in
      let zero = cond_zero ((from_of day b == s) && nat_le (leaves day b) minute) (count_of u (taken day plan b)) none.1 in
      let zero' = cond_zero ((to_of day a == s) && nat_le (ready_at day a) minute) (count_of u (given day plan a)) none.0 in
      omega arith)
      (λ (yard : GoesByYard day plan u a b).
      let ready = yard.ready in
      let same : takes_here day plan is_day links runs s u b ≡ gives_here day plan is_day links runs s u a = here_step day plan is_day links runs s u a b follows in
      let takes_is = chosen (from_of day b == s) (nat_le (leaves day b) minute) (count_of u (taken day plan b)) (le-leb (leaves day b) minute left) in
      let gives_is = chosen (to_of day a == s) (nat_le (ready_at day a) minute) (count_of u (given day plan a)) (le-leb (ready_at day a) minute (omega arith)) in
      omega arith)
      follows

  -- a trip that has not left takes and gives nothing
  late_takes : (u t : ℕ) → is_early t ≡ false → takes u t ≡ 0
  late_takes u t late =
      let after = ltb-false (leaves day t) (minute + 1) late in
      not_now (from_of day t == s) (nat_le (leaves day t) minute) (lt-leb (leaves day t) minute (omega arith))
    where
      not_now : (b c : Bool) → c ≡ false → cond {A = ℕ} (b && c) (count_of u (taken day plan t)) 0 ≡ 0
      not_now true c e = cond-false {A = ℕ} c (count_of u (taken day plan t)) 0 e
      not_now false c e = refl

  late_gives : (u t : ℕ) → t < length day.trips → is_early t ≡ false → gives u t ≡ 0
  late_gives u t lt late =
      let after = ltb-false (leaves day t) (minute + 1) late in
      let time = is_day.timetable.time t lt in
      not_now (to_of day t == s) (nat_le (ready_at day t) minute) (lt-leb (ready_at day t) minute (omega arith))
    where
      not_now : (b c : Bool) → c ≡ false → cond {A = ℕ} (b && c) (count_of u (given day plan t)) 0 ≡ 0
      not_now true c e = cond-false {A = ℕ} c (count_of u (given day plan t)) 0 e
      not_now false c e = refl

  all_early : (u t : ℕ) → 1 ≤ count_of t (early u) → leaves day t ≤ minute
  all_early u t c = elim (cases_Bool (is_early t)) [
    | inl is ↦ let left = ltb-true (leaves day t) (minute + 1) is in omega arith
    | inr isnt ↦ let none = filter_out is_early t (duty day plan u) isnt in absurd (omega arith)
  ]

  stands_last : (u a : ℕ) (ts : List ℕ) → stands_ready day plan s minute u (a ∷ ts) ≡ (has u (given day plan (last_of_duty a ts)) && (to_of day (last_of_duty a ts) == s) && nat_le (ready_at day (last_of_duty a ts)) minute)
  stands_last u a [] = refl
  stands_last u a (b ∷ ts) = stands_last u b ts

  -- the early trips are the first ones
  first_early : (u a : ℕ) (ts xs : List ℕ) → InLine day xs → filter is_early xs ≡ a ∷ ts → (rest : List ℕ) × (xs ≡ a ∷ rest)
  first_early u a ts [] line e = absurd (never e)
    where
      never : [] ≡ a ∷ ts → ⊥
      never e = cc
  first_early u a ts (x ∷ xs) line e = elim (cases_Bool (is_early x)) [
    | inl is ↦
        let all : x ∷ filter is_early xs ≡ a ∷ ts = sym (cond-true (is_early x) (x ∷ filter is_early xs) (filter is_early xs) is) ∙ e in
        (xs, ap (λ (y : ℕ). y ∷ xs) (heads all))
    | inr late ↦ absurd (never (sym (all_late day (minute + 1) x xs line late) ∙ e))
  ]
    where
      heads : {y z : ℕ} {ys zs : List ℕ} → y ∷ ys ≡ z ∷ zs → y ≡ z
      heads e = cc

      never : [] ≡ a ∷ ts → ⊥
      never e = cc

  -- along the early trips of a duty
  along : (u : ℕ) (ts : List ℕ) → early u ≡ ts → BeginsAt day (home_of day u) ts → EachFollows (MayFollow day plan u) ts
      → here u + list_sum (gives u) ts ≡ (if stands_ready day plan s minute u ts then 1 else 0) + list_sum (takes u) ts
  unfolding list_sum
  along u [] is begins follows = refl
  along u (a ∷ ts) is begins follows =
      let whole = first_early u a ts (duty day plan u) (duty_in_line day plan u) is in
      let there = one_same a a refl in
      let on = ap (count_of a) is in
      let left = all_early u a (omega arith) in
      let first : takes u a ≡ here u =
      chosen (from_of day a == s) (nat_le (leaves day a) minute) (count_of u (taken day plan a)) (le-leb (leaves day a) minute left)
      ∙ ap (λ (n : ℕ). cond {A = ℕ} (from_of day a == s) n 0) (first_takes day plan is_day links runs u a whole.0 whole.1) ∙ ap (λ (t : ℕ). cond {A = ℕ} (t == s) 1 0) begins in
      let rest = steps_early (MayFollow day plan u) (λ t. leaves day t ≤ minute) (takes u) (gives u) (step u) a ts
      (λ t c. let on_it = ap (count_of t) is in all_early u t (omega arith)) follows in
      let less = given_less day plan is_day links runs (last_of_duty a ts) u in
      let few = once day plan is_day links runs (last_of_duty a ts) u in
      let last : gives u (last_of_duty a ts) ≡ (if stands_ready day plan s minute u (a ∷ ts) then 1 else 0) =
      told (count_of u (given day plan (last_of_duty a ts))) (to_of day (last_of_duty a ts) == s) (nat_le (ready_at day (last_of_duty a ts)) minute) (omega arith)
      ∙ ap (λ (b : Bool). cond {A = ℕ} b 1 0) (sym (stands_last u a ts)) in
      omega arith

  -- over all trips
  pub ready_unit : (u : ℕ) → u < unit_count day
      → here u + sum_below (gives u) (length day.trips) ≡ (if stands_ready day plan s minute u (early u) then 1 else 0) + sum_below (takes u) (length day.trips)
  ready_unit u lt =
      let all_takes = of_duty day plan is_day links runs u (takes u) (λ t in_day none. cond_zero ((from_of day t == s) && nat_le (leaves day t) minute) (count_of u (taken day plan t)) (let less = taken_less day plan is_day links runs t u in omega arith)) in
      let all_gives = of_duty day plan is_day links runs u (gives u) (λ t in_day none. cond_zero ((to_of day t == s) && nat_le (ready_at day t) minute) (count_of u (given day plan t)) (let less = given_less day plan is_day links runs t u in omega arith)) in
      let early_takes = sum_passing (takes u) is_early (duty day plan u) (λ t c late. late_takes u t late) in
      let early_gives = sum_passing (gives u) is_early (duty day plan u) (λ t c late. late_gives u t (duty_within day plan is_day links runs u t c) late) in
      let whole = along u (early u) refl (early_begins day (minute + 1) (home_of day u) (duty day plan u) (duty_in_line day plan u) (runs.homes u lt))
      (early_follows day (minute + 1) (MayFollow day plan u) (duty day plan u) (duty_in_line day plan u) (runs.follows u lt)) in
      omega arith

module _ (day : Day) (plan : List (List ℕ)) (is_day : IsDay day) (links : AreLinks day) (stocked : IsStocked day) (runs : Runs day plan) where
  both_if : (b : Bool) (p q r t : ℕ) → p + q ≡ r + t → cond {A = ℕ} b p 0 + cond {A = ℕ} b q 0 ≡ cond {A = ℕ} b r 0 + cond {A = ℕ} b t 0
  both_if true p q r t e = e
  both_if false p q r t e = refl

  both_tests : (b c : Bool) → cond {A = ℕ} (b && c) 1 0 ≡ cond {A = ℕ} c (cond {A = ℕ} b 1 0) 0
  both_tests true true = refl
  both_tests true false = refl
  both_tests false true = refl
  both_tests false false = refl

  counts_are : (s m minute : ℕ) → start_of day s m + ready_until day (map (types_of day) plan) s m minute ≡ ready_units day plan s m minute + taken_until day (map (types_of day) plan) s m minute
  unfolding taken_until ready_until
  counts_are s m minute =
      let home : ℕ → ℕ = λ u. if home_of day u == s then 1 else 0 in
      let ready : ℕ → ℕ = λ u. if stands_ready day plan s minute u (duty_before day plan (minute + 1) u) then 1 else 0 in
      let took : ℕ → ℕ = λ u. sum_below (takes_until day plan is_day links runs s minute u) (length day.trips) in
      let gave : ℕ → ℕ = λ u. sum_below (gives_until day plan is_day links runs s minute u) (length day.trips) in
      let t = takes_by_units day plan is_day links stocked runs (λ t. (from_of day t == s) && nat_le (leaves day t) minute) m in
      let g = gives_by_units day plan is_day links stocked runs (λ t. (to_of day t == s) && nat_le (ready_at day t) minute) m in
      let start = at_home day s m stocked in
      let units : sum_below (λ u. (if type_of day u == m then home u else 0) + (if type_of day u == m then gave u else 0)) (unit_count day)
      ≡ sum_below (λ u. (if type_of day u == m then ready u else 0) + (if type_of day u == m then took u else 0)) (unit_count day) =
      sum_same (λ u. (if type_of day u == m then home u else 0) + (if type_of day u == m then gave u else 0)) (λ u. (if type_of day u == m then ready u else 0) + (if type_of day u == m then took u else 0)) (unit_count day)
      (λ u lt. both_if (type_of day u == m) (home u) (gave u) (ready u) (took u) (ready_unit day plan is_day links runs s minute u lt)) in
      let before = sum_add (λ u. if type_of day u == m then home u else 0) (λ u. if type_of day u == m then gave u else 0) (unit_count day) in
      let after = sum_add (λ u. if type_of day u == m then ready u else 0) (λ u. if type_of day u == m then took u else 0) (unit_count day) in
      let stand : ready_units day plan s m minute ≡ sum_below (λ u. if type_of day u == m then ready u else 0) (unit_count day) =
      sum_same (λ u. if stands_ready day plan s minute u (duty_before day plan (minute + 1) u) && (type_of day u == m) then 1 else 0) (λ u. if type_of day u == m then ready u else 0) (unit_count day)
      (λ u lt. both_tests (stands_ready day plan s minute u (duty_before day plan (minute + 1) u)) (type_of day u == m)) in
      omega arith

pub yards_hold_ready_units : YardsHoldReadyUnits
yards_hold_ready_units day plan s m minute is_day links stocked runs = let same = counts_are day plan is_day links stocked runs s m minute in omega (arith, ints)
