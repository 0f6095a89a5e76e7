-- The stock rows of a fleet, one by one.
use Rattle.std.proofs.Common.{◌≡◌, ◌∙◌, ℕ, zero, suc, ◌+◌, ◌*◌, ◌≤◌, List, [], ◌∷◌, ◌++◌, length, take, Some, slice_get, refl, ap}
use Rattle.std.proofs.Common.{arith}
use Rattle.std.proofs.lemmas.List.{take_all}
use Rattle.std.proofs.lemmas.Nat.{mul-le}
use Rattle.std.proofs.lemmas.Option.{get_or_from_slice_get, slice_get_within}
use Rattle.rail_base.specs.declared.limits.TheConstants.{MAX_STOCK, MAX_STOCK_ROWS}
use Rattle.rail_csv.specs.declared.rows.StockRow.{StockRow}
use Rattle.timetable.specs.Accepted.{IsSoundDay}
use Rattle.timetable.specs.Day.{Day}
use Rattle.fleets.specs.Fleets.{fleet_size, FitsDay, row_in, rows_from}

-- no number of a fleet is greater than all together
one_of_all : (fleet : List ℕ) (k n : ℕ) → slice_get fleet k ≡ Some n → n ≤ fleet_size fleet
one_of_all [] k n at = let inside = slice_get_within {A = ℕ} [] k n at in absurd (omega arith)
one_of_all (x ∷ fleet) zero n at = let same : x ≡ n = get_or_from_slice_get (x ∷ fleet) zero n n at in omega arith
one_of_all (x ∷ fleet) (suc k) n at = let rest = one_of_all fleet k n at in omega arith

pub few_at : (day : Day) (fleet : List ℕ) (k n : ℕ) → FitsDay day fleet → slice_get fleet k ≡ Some n → n ≤ MAX_STOCK
few_at day fleet k n fits at = let one = one_of_all fleet k n at in omega (arith, fits.few)

-- one row more
next_from : (day : Day) (place k n : ℕ) (fleet : List ℕ) → slice_get fleet k ≡ Some n
    → rows_from day place (take (suc k) fleet) ≡ rows_from day place (take k fleet) ++ row_in day (place + k) n ∷ []
next_from day place k n [] at = let inside = slice_get_within {A = ℕ} [] k n at in absurd (omega arith)
next_from day place zero n (x ∷ fleet) at =
    let same : x ≡ n = get_or_from_slice_get (x ∷ fleet) zero n n at in
    let here : place ≡ place + zero = omega arith in
    λ i. row_in day (here i) (same i) ∷ []
next_from day place (suc k) n (x ∷ fleet) at =
    let here : place + 1 + k ≡ place + suc k = omega arith in
    ap (λ (rows : List StockRow). row_in day place x ∷ rows) (next_from day (place + 1) k n fleet at)
    ∙ ap (λ (p : ℕ). row_in day place x ∷ (rows_from day (place + 1) (take k fleet) ++ row_in day p n ∷ [])) here

pub next_row : (day : Day) (k n : ℕ) (fleet : List ℕ) → slice_get fleet k ≡ Some n
    → rows_from day 0 (take (k + 1) fleet) ≡ rows_from day 0 (take k fleet) ++ row_in day k n ∷ []
next_row day k n fleet at =
    let more : k + 1 ≡ suc k = omega arith in
    let here : 0 + k ≡ k = omega arith in
    ap (λ (j : ℕ). rows_from day 0 (take j fleet)) more ∙ next_from day 0 k n fleet at
    ∙ ap (λ (j : ℕ). rows_from day 0 (take k fleet) ++ row_in day j n ∷ []) here

pub all_rows : (day : Day) (k : ℕ) (fleet : List ℕ) → length fleet ≤ k → rows_from day 0 (take k fleet) ≡ rows_from day 0 fleet
all_rows day k fleet all = ap (rows_from day 0) (take_all k fleet all)

length-rows_from : (day : Day) (place : ℕ) (fleet : List ℕ) → length (rows_from day place fleet) ≡ length fleet
length-rows_from day place [] = refl
length-rows_from day place (x ∷ fleet) = ap suc (length-rows_from day (place + 1) fleet)

-- there are so few stations and types that the rows are no more than a table may have
pub few_rows : (day : Day) (fleet : List ℕ) → IsSoundDay day → FitsDay day fleet → length (rows_from day 0 fleet) ≤ MAX_STOCK_ROWS
few_rows day fleet sound fits =
    let most : length day.stations * length day.types ≤ 60 * 6 = mul-le (length day.stations) (length day.types) 60 6 sound.limits.timetable.station_count sound.limits.timetable.type_count in
    omega (arith, length-rows_from day 0 fleet, fits.each, most)
