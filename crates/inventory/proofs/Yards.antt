-- What stands in the yards, once trips have run, the latest first: what stood there at the start, less what was taken,
-- and what was given and is ready.
use Rattle.std.proofs.Common.{◌≡◌, ℕ, ◌+◌, ◌<◌, ◌≤◌, List, [], ◌∷◌, map, Bool, true, false, cond, eqb, Option, Some}
use Rattle.std.proofs.Common.{None, refl, sym, ap, ◌∙◌, arith, inl, inr}
use Rattle.std.specs.Prelude.{if◌then◌else◌, ◌==◌, ◌&&◌, nat_le}
use Rattle.std.proofs.lemmas.Bool.{cases_lt, cond-true, cond-false, false≢true, and_parts, eqb-true, leb-true, le-leb}
use Rattle.std.proofs.lemmas.List.{map-id}
use Rattle.timetable.specs.Accepted.{IsDay, AreLinks, IsStocked}
use Rattle.timetable.specs.Day.{Day, leaves, from_of, to_of, home_of, type_of, types_of, unit_count, ready_at}
use Rattle.timetable.specs.Links.{list_of, itself, taken_with, given_with}
use Rattle.timetable.specs.Lists.{count_of, has, sum_below}
use Rattle.timetable.specs.Starts.{start_of}
use Rattle.timetable.proofs.AtHome.{at_home}
use Rattle.inventory.specs.Counts.{takes_of, gives_of}
use Rattle.inventory.specs.Places.{given_places, taken_places}
use Rattle.inventory.specs.NamedUnits.{InYard, after_trip, standing, may_be_taken}
use Rattle.inventory.proofs.Sums.{one_same, one_other, sum_same, sum_add, sum_zero, sum_one_more, sum_of_type}
use Rattle.inventory.proofs.Order.{IsTurn, AreInTurn}
use Rattle.inventory.proofs.Linked.{Goes, AllHold, goes, coming_from, places_share, taken_is, given_is}
use Rattle.inventory.proofs.Linked.{taken_places-map, given_places-map}
use Rattle.inventory.proofs.Standing.{IsRight, AreRight, stands_after, standing_is, latest_here, latest_before}
use Rattle.inventory.proofs.Standing.{right_of, go_on, not_in_yard, leads_before, none_has, le_has}

-- ---- sums over trips of a list

unfoldable pub list_sum : (ℕ → ℕ) → List ℕ → ℕ
list_sum g [] = 0
list_sum g (x ∷ xs) = g x + list_sum g xs

pub list_sum_below : (g : ℕ → ℕ) (n : ℕ) (xs : List ℕ) → ((x : ℕ) → 1 ≤ count_of x xs → x < n) → ((x : ℕ) → count_of x xs ≤ 1)
    → list_sum g xs ≡ sum_below (λ x. if has x xs then g x else 0) n
unfolding list_sum
list_sum_below g n [] known once = sym (sum_zero (λ x. if has x [] then g x else 0) n (λ k lt. refl))
list_sum_below g n (x ∷ xs) known once =
    let rest = list_sum_below g n xs (λ y c. known y (omega arith)) (λ y. let few = once y in omega arith) in
    let o = one_same x x refl in
    let few = once x in
    let more = sum_one_more (λ y. if has y (x ∷ xs) then g y else 0) (λ y. if has y xs then g y else 0) x (g x) n (known x (omega arith))
    (let here = cond-true {A = ℕ} (has x (x ∷ xs)) (g x) 0 (le_has x (x ∷ xs) (omega arith)) in let none = cond-false {A = ℕ} (has x xs) (g x) 0 (none_has x xs (omega arith)) in omega arith)
    (λ y ne. let other = one_other x y (λ e. ne (sym e)) in let same : count_of y (x ∷ xs) ≡ count_of y xs = omega arith in ap (λ (c : ℕ). cond {A = ℕ} (nat_le 1 c) (g y) 0) same) in
    omega arith

-- ---- small facts on choices

unfoldable pub tally : Bool → ℕ
tally b = if b then 1 else 0

pub cond_zero : (b : Bool) (n : ℕ) → n ≡ 0 → cond {A = ℕ} b n 0 ≡ 0
cond_zero true n e = e
cond_zero false n e = refl

cond_one : (b : Bool) (n : ℕ) → n ≡ 1 → tally b ≡ cond {A = ℕ} b n 0
unfolding tally
cond_one true n e = sym e
cond_one false n e = refl

pub both_if : (b : Bool) (p q r s : ℕ) → p + q ≡ r + s → cond {A = ℕ} b p 0 + cond {A = ℕ} b q 0 ≡ cond {A = ℕ} b r 0 + cond {A = ℕ} b s 0
both_if true p q r s e = e
both_if false p q r s e = refl

pub sum_if : (p : ℕ → Bool) (b : Bool) (x : ℕ → ℕ) (n : ℕ) → sum_below (λ u. if p u then (if b then x u else 0) else 0) n ≡ cond {A = ℕ} b (sum_below (λ u. if p u then x u else 0) n) 0
sum_if p true x n = refl
sum_if p false x n = sum_zero (λ u. if p u then 0 else 0) n (λ u lt. cond_zero (p u) 0 refl)

pub and_true : (b c : Bool) → c ≡ true → (b && c) ≡ b
and_true true c e = e
and_true false c e = refl

-- what may be taken at its departure, may be taken later at that station, and at no other
taken_at_station : (place : Option InYard) (from leave s minute : ℕ) → may_be_taken from leave place ≡ true → leave ≤ minute → may_be_taken s minute place ≡ (from == s)
taken_at_station None from leave s minute h le = absurd (false≢true h)
taken_at_station (Some place) from leave s minute h le =
    let both = and_parts (eqb place.station from) (nat_le place.ready leave) h in
    let is = eqb-true place.station from both.0 in
    let ready = leb-true place.ready leave both.1 in
    ap (λ (t : ℕ). eqb t s && nat_le place.ready minute) is ∙ and_true (eqb from s) (nat_le place.ready minute) (le-leb place.ready minute (omega arith))

module _ (day : Day) (types : List (List ℕ)) (lists : ℕ → List ℕ) (links : AreLinks day) (is_day : IsDay day) where
  -- ---- one unit, as trip c runs

  module _ (c : ℕ) (before : List ℕ) (turn : IsTurn day c before) (turns : AreInTurn day before) (right : IsRight day types lists c before) (rights : AreRight day types lists before)
      (s minute : ℕ) (passed : leaves day c ≤ minute) where
    given_tally : (u : ℕ) → 1 ≤ count_of u (lists c)
        → tally (may_be_taken s minute (standing day types lists (c ∷ before) u)) ≡ (if (to_of day c == s) && nat_le (ready_at day c) minute then count_of u (given_places day types c (lists c)) else 0)
    unfolding stands_after tally
    given_tally u here =
        let g : Goes day types c = goes day types links c in
        let all = g.total u (lists c) in
        let few = right.distinct u in
        let is : standing day types lists (c ∷ before) u ≡ after_trip day types lists c u =
        standing_is day types lists (c ∷ before) u ∙ ap (stands_after day types lists u) (latest_here day types lists c before u here) in
        elim (cases_lt 0 (count_of u (given_places day types c (lists c)))) [
          | inl given ↦
              ap (λ (p : Option InYard). tally (may_be_taken s minute p)) (is ∙ cond-true (has u (given_places day types c (lists c))) _ None (le_has u (given_places day types c (lists c)) (omega arith)))
              ∙ cond_one ((to_of day c == s) && nat_le (ready_at day c) minute) (count_of u (given_places day types c (lists c))) (omega arith)
          | inr none ↦
              ap (λ (p : Option InYard). tally (may_be_taken s minute p)) (is ∙ cond-false (has u (given_places day types c (lists c))) _ None (none_has u (given_places day types c (lists c)) (omega arith)))
              ∙ sym (cond_zero ((to_of day c == s) && nat_le (ready_at day c) minute) (count_of u (given_places day types c (lists c))) (omega arith))
        ]

    taken_tally : (u : ℕ) → 1 ≤ count_of u (lists c)
        → tally (may_be_taken s minute (standing day types lists before u)) ≡ (if from_of day c == s then count_of u (taken_places day types c (lists c)) else 0)
    unfolding tally
    taken_tally u here =
        let shares = places_share day types c u (lists c) in
        let few = right.distinct u in
        elim (cases_lt 0 (count_of u (taken_places day types c (lists c)))) [
          | inl taken ↦
              ap tally (taken_at_station (standing day types lists before u) (from_of day c) (leaves day c) s minute (right.taken_are u (omega arith)) passed)
              ∙ cond_one (from_of day c == s) (count_of u (taken_places day types c (lists c))) (omega arith)
          | inr none ↦
              let came = ap (count_of u) right.kept_are in
              let from = coming_from day types lists u c (omega arith) in
              let ran = leads_before day types lists links is_day from.0 c before turn from.1 in
              let is = go_on day types lists links is_day before turns rights from.0 c u ran turn.fresh from.2 in
              ap tally (not_in_yard day types lists links is_day before from.0 c u s minute (right_of day types lists before rights from.0 u ran) is from.2)
              ∙ sym (cond_zero (from_of day c == s) (count_of u (taken_places day types c (lists c))) (omega arith))
        ]

    unit_moves : (u : ℕ)
        → tally (may_be_taken s minute (standing day types lists (c ∷ before) u)) + (if from_of day c == s then count_of u (taken_places day types c (lists c)) else 0)
        ≡ tally (may_be_taken s minute (standing day types lists before u)) + (if (to_of day c == s) && nat_le (ready_at day c) minute then count_of u (given_places day types c (lists c)) else 0)
    unit_moves u = elim (cases_lt 0 (count_of u (lists c))) [
      | inl here ↦ let g = given_tally u (omega arith) in let t = taken_tally u (omega arith) in omega arith
      | inr none ↦
          let goes_on : Goes day types c = goes day types links c in
          let all = goes_on.total u (lists c) in
          let shares = places_share day types c u (lists c) in
          let is : standing day types lists (c ∷ before) u ≡ standing day types lists before u =
          standing_is day types lists (c ∷ before) u ∙ ap (stands_after day types lists u) (latest_before day types lists c before u (omega arith)) ∙ sym (standing_is day types lists before u) in
          let same = ap (λ (p : Option InYard). tally (may_be_taken s minute p)) is in
          let t = cond_zero (from_of day c == s) (count_of u (taken_places day types c (lists c))) (omega arith) in
          let g = cond_zero ((to_of day c == s) && nat_le (ready_at day c) minute) (count_of u (given_places day types c (lists c))) (omega arith) in
          omega arith
    ]

  -- ---- all units of a type

  unfoldable pub yard_count : List ℕ → ℕ → ℕ → ℕ → ℕ
  yard_count done s m minute = sum_below (λ u. if type_of day u == m then tally (may_be_taken s minute (standing day types lists done u)) else 0) (unit_count day)

  unfoldable pub takes_at : ℕ → ℕ → ℕ → ℕ
  takes_at s m t = if from_of day t == s then takes_of day types m t else 0

  unfoldable pub gives_at : ℕ → ℕ → ℕ → ℕ → ℕ
  gives_at s m minute t = if (to_of day t == s) && nat_le (ready_at day t) minute then gives_of day types m t else 0

  at_start : IsStocked day → (s m minute : ℕ) → yard_count [] s m minute ≡ start_of day s m
  unfolding yard_count tally standing
  at_start stocked s m minute =
      sum_same (λ u. if type_of day u == m then (if (home_of day u == s) && nat_le 0 minute then 1 else 0) else 0) (λ u. if type_of day u == m then (if home_of day u == s then 1 else 0) else 0) (unit_count day)
      (λ u lt. ap (λ (b : Bool). cond {A = ℕ} (type_of day u == m) (cond {A = ℕ} b 1 0) 0) (and_true (home_of day u == s) (nat_le 0 minute) (le-leb 0 minute (omega arith))))
      ∙ at_home day s m stocked

  module _ (all : AllHold itself day types) where
    itself_are : (t : ℕ) → map itself (list_of types t) ≡ list_of types t
    itself_are t = map-id (list_of types t)

    pub taken_types : (c : ℕ) → types_of day (lists c) ≡ list_of types c → types_of day (taken_places day types c (lists c)) ≡ taken_with itself day types c
    taken_types c are = taken_places-map day types (type_of day) c (lists c) ∙ ap (taken_places day types c) are ∙ sym (taken_is day types links itself types itself_are all c)

    given_types : (c : ℕ) → types_of day (lists c) ≡ list_of types c → types_of day (given_places day types c (lists c)) ≡ given_with itself day types c
    given_types c are = given_places-map day types (type_of day) c (lists c) ∙ ap (given_places day types c) are ∙ sym (given_is day types links itself types itself_are all c)

    trip_moves : (c : ℕ) (before : List ℕ) → IsTurn day c before → AreInTurn day before → IsRight day types lists c before → AreRight day types lists before → (s m minute : ℕ) → leaves day c ≤ minute
        → yard_count (c ∷ before) s m minute + takes_at s m c ≡ yard_count before s m minute + gives_at s m minute c
    unfolding yard_count takes_at gives_at
    trip_moves c before turn turns right rights s m minute passed =
        let taken = taken_places day types c (lists c) in
        let given = given_places day types c (lists c) in
        let here = from_of day c == s in
        let there = (to_of day c == s) && nat_le (ready_at day c) minute in
        let g : Goes day types c = goes day types links c in
        let now = λ (u : ℕ). if type_of day u == m then tally (may_be_taken s minute (standing day types lists (c ∷ before) u)) else 0 in
        let earlier = λ (u : ℕ). if type_of day u == m then tally (may_be_taken s minute (standing day types lists before u)) else 0 in
        let takes = λ (u : ℕ). if type_of day u == m then (if here then count_of u taken else 0) else 0 in
        let gives = λ (u : ℕ). if type_of day u == m then (if there then count_of u given else 0) else 0 in
        let same : sum_below (λ u. now u + takes u) (unit_count day) ≡ sum_below (λ u. earlier u + gives u) (unit_count day) =
        sum_same (λ u. now u + takes u) (λ u. earlier u + gives u) (unit_count day)
        (λ u lt. both_if (type_of day u == m) (tally (may_be_taken s minute (standing day types lists (c ∷ before) u))) (if here then count_of u taken else 0)
        (tally (may_be_taken s minute (standing day types lists before u))) (if there then count_of u given else 0)
        (unit_moves c before turn turns right rights s minute passed u)) in
        let left = sum_add now takes (unit_count day) in
        let others = sum_add earlier gives (unit_count day) in
        let t : sum_below takes (unit_count day) ≡ cond {A = ℕ} here (count_of m (taken_with itself day types c)) 0 =
        sum_if (λ u. type_of day u == m) here (λ u. count_of u taken) (unit_count day)
        ∙ ap (λ (n : ℕ). cond {A = ℕ} here n 0) (sum_of_type (type_of day) m (unit_count day) taken (λ u k. let shares = places_share day types c u (lists c) in right.known u (omega arith))
        ∙ ap (count_of m) (taken_types c right.types_are)) in
        let v : sum_below gives (unit_count day) ≡ cond {A = ℕ} there (count_of m (given_with itself day types c)) 0 =
        sum_if (λ u. type_of day u == m) there (λ u. count_of u given) (unit_count day)
        ∙ ap (λ (n : ℕ). cond {A = ℕ} there n 0) (sum_of_type (type_of day) m (unit_count day) given (λ u k. let total = g.total u (lists c) in right.known u (omega arith))
        ∙ ap (count_of m) (given_types c right.types_are)) in
        omega arith

    pub yards : IsStocked day → (done : List ℕ) → AreInTurn day done → AreRight day types lists done → (s m minute : ℕ) → ((t : ℕ) → 1 ≤ count_of t done → leaves day t ≤ minute)
        → yard_count done s m minute + list_sum (takes_at s m) done ≡ start_of day s m + list_sum (gives_at s m minute) done
    unfolding list_sum
    yards stocked [] turns rights s m minute passed = let all_home = at_start stocked s m minute in omega arith
    yards stocked (c ∷ before) turns rights s m minute passed =
        let o = one_same c c refl in
        let rest = yards stocked before turns.1 rights.1 s m minute (λ t k. passed t (omega arith)) in
        let moves = trip_moves c before turns.0 turns.1 rights.0 rights.1 s m minute (passed c (omega arith)) in
        omega arith
