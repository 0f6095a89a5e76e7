-- At the start each station has as many units of a type at home as its stock row says.
use Rattle.std.proofs.Common.{◌≡◌, ℕ, zero, suc, ◌+◌, ◌≤◌, List, [], ◌∷◌, ◌++◌, length, Bool, true, false, cond, refl}
use Rattle.std.proofs.Common.{◌∙◌, arith, inl, inr}
use Rattle.std.specs.Prelude.{if◌then◌else◌, ◌==◌, ◌&&◌, replicate}
use Rattle.std.proofs.lemmas.Bool.{cases_Bool, cond-true, cond-false}
use Rattle.rules.specs.declared.records.Stock.{Stock}
use Rattle.rules.specs.declared.records.Unit as unit
use Rattle.timetable.specs.Accepted.{rows_of, IsStocked}
use Rattle.timetable.specs.Day.{Day, type_of, home_of, units_in, units_of, unit_count}
use Rattle.timetable.specs.Laws.{UnitsAreAtHome}
use Rattle.timetable.specs.Lists.{of_entry, sum_below}
use Rattle.timetable.specs.Starts.{start_in, start_of}
use Rattle.timetable.proofs.Sums.{sum_first, sum_same}

-- ---- units of a list that are of a type and at home at a station

one_of : ℕ → ℕ → unit.Unit → ℕ
one_of s m x = if (x.home == s) && (x.unit_type == m) then 1 else 0

all_of : ℕ → ℕ → List unit.Unit → ℕ
all_of s m [] = 0
all_of s m (x ∷ xs) = one_of s m x + all_of s m xs

all_of-append : (s m : ℕ) (xs ys : List unit.Unit) → all_of s m (xs ++ ys) ≡ all_of s m xs + all_of s m ys
unfolding all_of
all_of-append s m [] ys = omega arith
all_of-append s m (x ∷ xs) ys = let rest = all_of-append s m xs ys in omega arith

all_of-replicate : (s m k : ℕ) (x : unit.Unit) → all_of s m (replicate k x) ≡ if (x.home == s) && (x.unit_type == m) then k else 0
unfolding all_of one_of
all_of-replicate s m zero x = on ((x.home == s) && (x.unit_type == m))
  where
    on : (b : Bool) → 0 ≡ cond {A = ℕ} b 0 0
    on true = refl
    on false = refl
all_of-replicate s m (suc k) x = let rest = all_of-replicate s m k x in on ((x.home == s) && (x.unit_type == m)) (all_of s m (replicate k x)) rest
  where
    on : (b : Bool) (n : ℕ) → n ≡ cond {A = ℕ} b k 0 → cond {A = ℕ} b 1 0 + n ≡ cond {A = ℕ} b (suc k) 0
    on true n e = omega arith
    on false n e = omega arith

none_of_rows : (s m : ℕ) (rows : List Stock) → rows_of rows s m ≡ 0 → all_of s m (units_in rows) ≡ 0
unfolding all_of
none_of_rows s m [] e = refl
none_of_rows s m (row ∷ rows) e = elim (cases_Bool ((row.station == s) && (row.unit_type == m))) [
  | inl here ↦ let o = cond-true {A = ℕ} ((row.station == s) && (row.unit_type == m)) 1 0 here in absurd (omega arith)
  | inr isnt ↦
      let rest = none_of_rows s m rows (omega arith) in
      let both = all_of-append s m (replicate row.start (record { unit_type = row.unit_type; home = row.station })) (units_in rows) in
      let first = all_of-replicate s m row.start (record { unit_type = row.unit_type; home = row.station }) in
      let none = cond-false {A = ℕ} ((row.station == s) && (row.unit_type == m)) row.start 0 isnt in
      omega arith
]

all_of_rows : (s m : ℕ) (rows : List Stock) → rows_of rows s m ≤ 1 → all_of s m (units_in rows) ≡ start_in rows s m
unfolding all_of
all_of_rows s m [] few = refl
all_of_rows s m (row ∷ rows) few =
    let both = all_of-append s m (replicate row.start (record { unit_type = row.unit_type; home = row.station })) (units_in rows) in
    let first = all_of-replicate s m row.start (record { unit_type = row.unit_type; home = row.station }) in
    elim (cases_Bool ((row.station == s) && (row.unit_type == m))) [
      | inl here ↦
          let o = cond-true {A = ℕ} ((row.station == s) && (row.unit_type == m)) 1 0 here in
          let is = cond-true {A = ℕ} ((row.station == s) && (row.unit_type == m)) row.start 0 here in
          let is' = cond-true {A = ℕ} ((row.station == s) && (row.unit_type == m)) row.start (start_in rows s m) here in
          let none = none_of_rows s m rows (omega arith) in
          omega arith
      | inr isnt ↦
          let o = cond-false {A = ℕ} ((row.station == s) && (row.unit_type == m)) 1 0 isnt in
          let is = cond-false {A = ℕ} ((row.station == s) && (row.unit_type == m)) row.start 0 isnt in
          let is' = cond-false {A = ℕ} ((row.station == s) && (row.unit_type == m)) row.start (start_in rows s m) isnt in
          let rest = all_of_rows s m rows (omega arith) in
          omega arith
    ]

-- by number
by_number : (s m : ℕ) (xs : List unit.Unit)
    → sum_below (λ u. if of_entry (λ x. x.unit_type) xs u 0 == m then (if of_entry (λ x. x.home) xs u 0 == s then 1 else 0) else 0) (length xs) ≡ all_of s m xs
unfolding all_of one_of
by_number s m [] = refl
by_number s m (x ∷ xs) =
    let rest = by_number s m xs in
    let first = sum_first (λ u. if of_entry (λ x. x.unit_type) (x ∷ xs) u 0 == m then (if of_entry (λ x. x.home) (x ∷ xs) u 0 == s then 1 else 0) else 0) (length xs) in
    let here = on (x.home == s) (x.unit_type == m) in
    omega arith
  where
    on : (b c : Bool) → cond {A = ℕ} c (cond {A = ℕ} b 1 0) 0 ≡ cond {A = ℕ} (b && c) 1 0
    on true true = refl
    on true false = refl
    on false true = refl
    on false false = refl

at_home_few : (day : Day) (s m : ℕ) → rows_of day.stock s m ≤ 1 → sum_below (λ u. if type_of day u == m then (if home_of day u == s then 1 else 0) else 0) (unit_count day) ≡ start_of day s m
unfolding type_of home_of units_of start_of
at_home_few day s m few = by_number s m (units_in day.stock) ∙ all_of_rows s m day.stock few

pub at_home : (day : Day) (s m : ℕ) → IsStocked day → sum_below (λ u. if type_of day u == m then (if home_of day u == s then 1 else 0) else 0) (unit_count day) ≡ start_of day s m
at_home day s m stocked = at_home_few day s m (stocked.once s m)

pub units_are_at_home : UnitsAreAtHome
units_are_at_home day s m few =
    sum_same (λ u. if (home_of day u == s) && (type_of day u == m) then 1 else 0) (λ u. if type_of day u == m then (if home_of day u == s then 1 else 0) else 0) (unit_count day)
    (λ u lt. both (home_of day u == s) (type_of day u == m)) ∙ at_home_few day s m few
  where
    both : (b c : Bool) → cond {A = ℕ} (b && c) 1 0 ≡ cond {A = ℕ} c (cond {A = ℕ} b 1 0) 0
    both true true = refl
    both true false = refl
    both false true = refl
    both false false = refl
