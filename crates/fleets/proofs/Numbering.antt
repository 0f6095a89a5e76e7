-- The units of the day with a fleet are numbered by station and then type.
use Rattle.std.proofs.Common.{◌≡◌, ◌∙◌, ℕ, zero, suc, ◌+◌, ◌*◌, ◌/◌, ◌%◌, ◌<◌, List, [], ◌∷◌, length, take, Some, slice_get, refl, ap}
use Rattle.std.proofs.Common.{arith, subst}
use Rattle.std.specs.Prelude.{slice_index}
use Rattle.std.proofs.lemmas.Nat.{div-mul-add, mod-mul-add}
use Rattle.std.proofs.lemmas.Option.{get_or_from_slice_get, slice_get_within}
use Rattle.rules.specs.declared.records.Stock.{Stock}
use Rattle.timetable.specs.Build.{starts_of}
use Rattle.timetable.specs.Day.{Day}
use Rattle.timetable.specs.Laws.{IsOfRow}
use Rattle.timetable.proofs.NumberedUnits.{units_are_numbered}
use Rattle.fleets.specs.Fleets.{fleet_size, stock_from, with_fleet}
use Rattle.fleets.specs.Laws.{FleetsAreNumbered, IsUnitOf}
use Rattle.fleets.proofs.Places.{starts-stock_from}

-- the stock row of a place
abbrev row_of : ℕ → ℕ → ℕ → Stock
row_of types place units = record { station = place / types; unit_type = place % types; start = units; end = units }

row_is : (types place k units : ℕ) (fleet : List ℕ) → slice_get fleet k ≡ Some units → slice_get (stock_from types place fleet) k ≡ Some (row_of types (place + k) units)
row_is types place k units [] at = let inside = slice_get_within {A = ℕ} [] k units at in absurd (omega arith)
row_is types place zero units (x ∷ fleet) at =
    let same : x ≡ units = get_or_from_slice_get (x ∷ fleet) zero units units at in
    let here : place ≡ place + zero = omega arith in
    λ i. Some (row_of types (here i) (same i))
row_is types place (suc k) units (x ∷ fleet) at =
    let here : place + 1 + k ≡ place + suc k = omega arith in
    row_is types (place + 1) k units fleet at ∙ ap (λ (p : ℕ). Some (row_of types p units)) here

-- the units of the rows before it are those of the places before
before_is : (types place k : ℕ) (fleet : List ℕ) → starts_of (take k (stock_from types place fleet)) ≡ fleet_size (take k fleet)
before_is types place zero fleet = refl
before_is types place (suc k) [] = refl
before_is types place (suc k) (x ∷ fleet) = ap (λ (n : ℕ). x + n) (before_is types (place + 1) k fleet)

-- a place with units is there
is_there : (fleet : List ℕ) (place k : ℕ) → k < slice_index fleet place → slice_get fleet place ≡ Some (slice_index fleet place)
is_there [] place k below = absurd (omega (arith, below))
is_there (x ∷ fleet) zero k below = refl
is_there (x ∷ fleet) (suc place) k below = is_there fleet place k below

of_place : (day : Day) (fleet : List ℕ) (s m k : ℕ) → m < length day.types → k < slice_index fleet (s * length day.types + m)
    → IsUnitOf (with_fleet fleet day) s m (fleet_size (take (s * length day.types + m) fleet) + k)
of_place day fleet s m k unit_type below =
    let types : ℕ = length day.types in
    let place : ℕ = s * types + m in
    let first : 0 + place ≡ place = omega arith in
    let units : ℕ = slice_index fleet place in
    let row : slice_get (stock_from types 0 fleet) place ≡ Some (row_of types (0 + place) units) = row_is types 0 place units fleet (is_there fleet place k below) in
    let is : IsOfRow (with_fleet fleet day) (row_of types (0 + place) units) (starts_of (take place (stock_from types 0 fleet)) + k) =
    (units_are_numbered (with_fleet fleet day)).of_row place k (row_of types (0 + place) units) row below in
    subst (λ (before : ℕ). IsUnitOf (with_fleet fleet day) s m (before + k)) (before_is types 0 place fleet) (record {
      known = is.known;
      home = is.home ∙ (ap (λ (p : ℕ). p / types) first ∙ div-mul-add s types m unit_type);
      unit_type = is.unit_type ∙ (ap (λ (p : ℕ). p % types) first ∙ mod-mul-add s types m unit_type);
    })

pub fleets_are_numbered : FleetsAreNumbered
fleets_are_numbered day fleet = record {
  of_place = of_place day fleet;
  all = (units_are_numbered (with_fleet fleet day)).all ∙ starts-stock_from (length day.types) 0 fleet;
}
