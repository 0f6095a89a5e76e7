-- The stock of a fleet has a row for each place, of another station or another type than all others.
use Rattle.std.proofs.Common.{◌≡◌, ◌∙◌, ℕ, zero, suc, ◌+◌, ◌*◌, ◌/◌, ◌%◌, ◌<◌, ◌≤◌, List, [], ◌∷◌, length, get_or, refl, sym, ap}
use Rattle.std.proofs.Common.{arith, inl, inr, cond}
use Rattle.std.specs.Prelude.{◌==◌, ◌&&◌}
use Rattle.std.specs.List.{AllPairs}
use Rattle.std.proofs.lemmas.Bool.{cases_Bool, and_parts, eqb-true, cond-true, cond-false}
use Rattle.std.proofs.lemmas.Nat.{div-add-mod'}
use Rattle.rules.specs.declared.records.Stock.{Stock}
use Rattle.timetable.specs.Accepted.{rows_of}
use Rattle.timetable.specs.Build.{starts_of}
use Rattle.timetable.specs.Meaning.{IsOtherStock}
use Rattle.fleets.specs.Fleets.{fleet_size, stock_from}

pub starts-stock_from : (types place : ℕ) (fleet : List ℕ) → starts_of (stock_from types place fleet) ≡ fleet_size fleet
starts-stock_from types place [] = refl
starts-stock_from types place (n ∷ fleet) = ap (λ k. n + k) (starts-stock_from types (place + 1) fleet)

-- two places of one station and one type are one
pub one_place : (types i j : ℕ) → i / types ≡ j / types → i % types ≡ j % types → i ≡ j
one_place types i j station unit_type =
    sym (div-add-mod' i types) ∙ (λ x. station x * types + unit_type x) ∙ div-add-mod' j types

-- the row of a place
record IsRowAt (types place : ℕ) (row : Stock) : Type 0 where
  pub station : row.station ≡ place / types
  pub unit_type : row.unit_type ≡ place % types

moved : (types place other : ℕ) (row : Stock) → place ≡ other → IsRowAt types place row → IsRowAt types other row
moved types place other row same is = record { station = is.station ∙ ap (λ k. k / types) same; unit_type = is.unit_type ∙ ap (λ k. k % types) same }

row_at : (types place : ℕ) (fleet : List ℕ) (k : ℕ) (d : Stock) → k < length (stock_from types place fleet) → IsRowAt types (place + k) (get_or (stock_from types place fleet) k d)
row_at types place [] k d lt = absurd (omega arith)
row_at types place (n ∷ fleet) zero d lt = moved types place (place + zero) _ (omega arith) (record { station = refl; unit_type = refl })
row_at types place (n ∷ fleet) (suc k) d lt = moved types (place + 1 + k) (place + suc k) _ (omega arith) (row_at types (place + 1) fleet k d (omega arith))

pub stock_apart : (types place : ℕ) (fleet : List ℕ) → AllPairs IsOtherStock (stock_from types place fleet)
stock_apart types place fleet i j d before lt same =
    let first = row_at types place fleet i d (omega arith) in
    let second = row_at types place fleet j d lt in
    let is : place + i ≡ place + j =
    one_place types (place + i) (place + j) (sym first.station ∙ same.0 ∙ second.station) (sym first.unit_type ∙ same.1 ∙ second.unit_type) in
    absurd (omega arith)

-- ---- how many rows are of a station and a type

none_later : (types place k s m : ℕ) (fleet : List ℕ) → k < place → k / types ≡ s → k % types ≡ m → rows_of (stock_from types place fleet) s m ≡ 0
none_later types place k s m [] before station unit_type = refl
none_later types place k s m (n ∷ fleet) before station unit_type =
    let rest = none_later types (place + 1) k s m fleet (omega arith) station unit_type in
    elim (cases_Bool (((place / types) == s) && ((place % types) == m))) [
      | inl here ↦
          let both = and_parts ((place / types) == s) ((place % types) == m) here in
          let same : k ≡ place = one_place types k place (station ∙ sym (eqb-true (place / types) s both.0)) (unit_type ∙ sym (eqb-true (place % types) m both.1)) in
          absurd (omega arith)
      | inr isnt ↦ let none : cond {A = ℕ} (((place / types) == s) && ((place % types) == m)) 1 0 ≡ 0 = cond-false _ 1 0 isnt in omega arith
    ]

pub rows_once : (types place s m : ℕ) (fleet : List ℕ) → rows_of (stock_from types place fleet) s m ≤ 1
rows_once types place s m [] = omega arith
rows_once types place s m (n ∷ fleet) =
    elim (cases_Bool (((place / types) == s) && ((place % types) == m))) [
      | inl here ↦
          let both = and_parts ((place / types) == s) ((place % types) == m) here in
          let none = none_later types (place + 1) place s m fleet (omega arith) (eqb-true (place / types) s both.0) (eqb-true (place % types) m both.1) in
          let one : cond {A = ℕ} (((place / types) == s) && ((place % types) == m)) 1 0 ≡ 1 = cond-true _ 1 0 here in
          omega arith
      | inr isnt ↦
          let rest = rows_once types (place + 1) s m fleet in
          let none : cond {A = ℕ} (((place / types) == s) && ((place % types) == m)) 1 0 ≡ 0 = cond-false _ 1 0 isnt in
          omega arith
    ]
