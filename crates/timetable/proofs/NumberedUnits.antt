-- Units are numbered by stock row, and then within the row.
use Rattle.std.proofs.Common.{◌≡◌, ℕ, zero, suc, ◌+◌, ◌<◌, List, [], ◌∷◌, ◌++◌, Some, refl, ap, ◌∙◌, arith, replicate}
use Rattle.std.proofs.Common.{slice_get, take}
use Rattle.std.proofs.lemmas.Option.{get_or_from_slice_get, slice_get_within}
use Rattle.rules.specs.declared.records.Stock.{Stock}
use Rattle.rules.specs.declared.records.Unit as unit
use Rattle.timetable.specs.Build.{starts_of}
use Rattle.timetable.specs.Day.{Day, type_of, home_of, units_in, units_of}
use Rattle.timetable.specs.Laws.{IsOfRow, UnitsAreNumbered}
use Rattle.timetable.proofs.Days.{entry_is, length-units_in}

-- an entry of a list that begins with one thing so many times
within_first : {X : Type 0} (n k : ℕ) (x : X) (xs : List X) → k < n → slice_get (replicate n x ++ xs) k ≡ Some x
within_first zero k x xs below = absurd (omega arith)
within_first (suc n) zero x xs below = refl
within_first (suc n) (suc k) x xs below = within_first n k x xs (omega arith)

past_first : {X : Type 0} (n k place : ℕ) (x : X) (xs : List X) → place ≡ n + k → slice_get (replicate n x ++ xs) place ≡ slice_get xs k
past_first zero k place x xs is = let same : place ≡ k = omega arith in ap (slice_get xs) same
past_first (suc n) k zero x xs is = absurd (omega arith)
past_first (suc n) k (suc place) x xs is = past_first n k place x xs (omega arith)

abbrev unit_of : Stock → unit.Unit
unit_of row = record { unit_type = row.unit_type; home = row.station }

-- after the units of the rows before it come those of a row
unit_at : (rows : List Stock) (r k : ℕ) (row : Stock) → slice_get rows r ≡ Some row → k < row.start → slice_get (units_in rows) (starts_of (take r rows) + k) ≡ Some (unit_of row)
unit_at [] r k row at below = let inside = slice_get_within {A = Stock} [] r row at in absurd (omega arith)
unit_at (first ∷ rows) zero k row at below =
    let same : first ≡ row = get_or_from_slice_get (first ∷ rows) 0 row row at in
    let place : 0 + k ≡ k = omega arith in
    let starts : first.start ≡ row.start = ap (λ (x : Stock). x.start) same in
    ap (slice_get (units_in (first ∷ rows))) place ∙ within_first first.start k (unit_of first) (units_in rows) (omega arith) ∙ ap (λ (x : Stock). Some (unit_of x)) same
unit_at (first ∷ rows) (suc r) k row at below =
    past_first first.start (starts_of (take r rows) + k) (starts_of (take (suc r) (first ∷ rows)) + k) (unit_of first) (units_in rows) (omega arith)
    ∙ unit_at rows r k row at below

of_row : (day : Day) (r k : ℕ) (row : Stock) → slice_get day.stock r ≡ Some row → k < row.start → IsOfRow day row (starts_of (take r day.stock) + k)
unfolding type_of home_of units_of
of_row day r k row at below =
    let u : ℕ = starts_of (take r day.stock) + k in
    let there : slice_get (units_in day.stock) u ≡ Some (unit_of row) = unit_at day.stock r k row at below in
    record {
      known = slice_get_within (units_in day.stock) u (unit_of row) there;
      unit_type = entry_is (λ (x : unit.Unit). x.unit_type) (units_in day.stock) u 0 (unit_of row) there;
      home = entry_is (λ (x : unit.Unit). x.home) (units_in day.stock) u 0 (unit_of row) there;
    }

pub units_are_numbered : UnitsAreNumbered
unfolding units_of
units_are_numbered day = record { of_row = of_row day; all = length-units_in day.stock }
