-- The units of a day's own stock are a fleet that fits it.
use Rattle.std.proofs.Common.{◌<◌, ◌≡◌, ◌∙◌, ℕ, zero, suc, ◌+◌, ◌*◌, ◌/◌, ◌%◌, ◌≤◌, List, [], ◌∷◌, ◌++◌, length, refl, sym, arith}
use Rattle.std.proofs.Common.{Bool, true, false, inl, inr}
use Rattle.std.specs.Prelude.{◌==◌, ◌&&◌, if◌then◌else◌}
use Rattle.std.proofs.lemmas.Bool.{cases_Bool, and_parts, eqb-true, cond-true, cond-false}
use Rattle.rail_base.specs.declared.limits.TheConstants.{MAX_UNITS}
use Rattle.rules.specs.declared.records.Stock.{Stock}
use Rattle.timetable.specs.Build.{starts_of}
use Rattle.timetable.specs.Day.{Day, unit_count}
use Rattle.timetable.specs.Lists.{listed, sum_below}
use Rattle.timetable.specs.Starts.{start_in, start_of}
use Rattle.timetable.proofs.Listing.{length-listed, get_listed}
use Rattle.timetable.proofs.NumberedUnits.{units_are_numbered}
use Rattle.fleets.specs.Fleets.{fleet_size, FitsDay, own_fleet, start_at}
use Rattle.fleets.specs.Laws.{OwnFleetsStand}
use Rattle.fleets.proofs.Places.{one_place}
use Rattle.std.proofs.Math.Nat.{mul-le-mul_right, suc-mul}
use Rattle.std.proofs.lemmas.Nat.{div-mul-add, mod-mul-add}
use Rattle.std.proofs.lemmas.Option.{get_or_from_slice_get}

size-append : (some others : List ℕ) → fleet_size (some ++ others) ≡ fleet_size some + fleet_size others
size-append [] others = omega arith
size-append (n ∷ some) others = let rest = size-append some others in omega arith

size-listed : (f : ℕ → ℕ) (n : ℕ) → fleet_size (listed f n) ≡ sum_below f n
size-listed f zero = refl
size-listed f (suc n) = let rest = size-listed f n in let more = size-append (listed f n) (f n ∷ []) in omega arith

module _ (types : ℕ) where
  -- the units of a row, at its place
  abbrev of_row : Stock → ℕ → ℕ
  of_row row k = if (row.station == (k / types)) && (row.unit_type == (k % types)) then row.start else 0

  none_before : (row : Stock) (n k : ℕ) → n ≤ k → row.station ≡ k / types → row.unit_type ≡ k % types → sum_below (of_row row) n ≡ 0
  none_before row zero k under station unit_type = refl
  none_before row (suc n) k under station unit_type =
      let rest = none_before row n k (omega arith) station unit_type in
      elim (cases_Bool ((row.station == (n / types)) && (row.unit_type == (n % types)))) [
        | inl here ↦
            let both = and_parts (row.station == (n / types)) (row.unit_type == (n % types)) here in
            let same : n ≡ k = one_place types n k (sym (eqb-true row.station (n / types) both.0) ∙ station) (sym (eqb-true row.unit_type (n % types) both.1) ∙ unit_type) in
            absurd (omega arith)
        | inr isnt ↦ let none : of_row row n ≡ 0 = cond-false _ row.start 0 isnt in omega arith
      ]

  -- a row is of one place at the most
  row_once : (row : Stock) (n : ℕ) → sum_below (of_row row) n ≤ row.start
  row_once row zero = omega arith
  row_once row (suc n) =
      elim (cases_Bool ((row.station == (n / types)) && (row.unit_type == (n % types)))) [
        | inl here ↦
            let both = and_parts (row.station == (n / types)) (row.unit_type == (n % types)) here in
            let none = none_before row n n (omega arith) (eqb-true row.station (n / types) both.0) (eqb-true row.unit_type (n % types) both.1) in
            let one : of_row row n ≡ row.start = cond-true _ row.start 0 here in
            omega arith
        | inr isnt ↦
            let rest = row_once row n in
            let none : of_row row n ≡ 0 = cond-false _ row.start 0 isnt in
            omega arith
      ]

  one_row : (here : Bool) (n rest : ℕ) → (if here then n else rest) ≤ (if here then n else 0) + rest
  one_row true n rest = omega arith
  one_row false n rest = omega arith

  more_rows : (row : Stock) (rows : List Stock) (n : ℕ)
      → sum_below (λ k. start_in (row ∷ rows) (k / types) (k % types)) n ≤ sum_below (of_row row) n + sum_below (λ k. start_in rows (k / types) (k % types)) n
  more_rows row rows zero = omega arith
  more_rows row rows (suc n) =
      let rest = more_rows row rows n in
      let one = one_row ((row.station == (n / types)) && (row.unit_type == (n % types))) row.start (start_in rows (n / types) (n % types)) in
      omega arith

  none_start : (n : ℕ) → sum_below (λ k. start_in [] (k / types) (k % types)) n ≡ 0
  none_start zero = refl
  none_start (suc n) = let rest = none_start n in omega arith

  all_rows : (rows : List Stock) (n : ℕ) → sum_below (λ k. start_in rows (k / types) (k % types)) n ≤ starts_of rows
  all_rows [] n = let none = none_start n in omega arith
  all_rows (row ∷ rows) n =
      let rest = all_rows rows n in
      let more = more_rows row rows n in
      let one = row_once row n in
      omega arith

pub own_fleet_fits : (day : Day) → unit_count day ≤ MAX_UNITS → FitsDay day (own_fleet day)
unfolding start_of
own_fleet_fits day few =
    let places : ℕ = length day.stations * length day.types in
    let size : fleet_size (own_fleet day) ≡ sum_below (start_at day) places = size-listed (start_at day) places in
    let rows : sum_below (start_at day) places ≤ starts_of day.stock = all_rows (length day.types) day.stock places in
    let count = (units_are_numbered day).all in
    record { each = length-listed (start_at day) places; few = omega (arith, size, rows, count, few) }

pub own_fleets_stand : OwnFleetsStand
own_fleets_stand day s m station unit_type =
    let types : ℕ = length day.types in
    let place : ℕ = s * types + m in
    let most : suc s * types ≤ length day.stations * types = mul-le-mul_right {m = suc s} {n = length day.stations} types (omega arith) in
    let within : place < length day.stations * types = omega (arith, most, suc-mul s types) in
    get_or_from_slice_get (own_fleet day) place (start_at day place) 0 (get_listed (start_at day) (length day.stations * types) place within)
    ∙ (λ i. start_of day (div-mul-add s types m unit_type i) (mod-mul-add s types m unit_type i))
