-- What stands at a station at the start of the day and is wanted there at its end is what its stock row says.
use Rattle.std.proofs.Common.{◌≡◌, ℕ, zero, suc, ◌≤◌, List, [], ◌∷◌, Bool, true, false, refl, sym, subst, ap}
use Rattle.std.proofs.Common.{◌∙◌, arith, inl, inr}
use Rattle.std.specs.Prelude.{◌==◌, ◌&&◌, Some, slice_get}
use Rattle.std.proofs.lemmas.Bool.{cases_Bool, cond-true, cond-false, eq-eqb}
use Rattle.std.proofs.lemmas.Option.{get_or_from_slice_get, slice_get_within}
use Rattle.rules.specs.declared.records.Stock.{Stock}
use Rattle.timetable.specs.Accepted.{rows_of}
use Rattle.timetable.specs.Day.{Day, wanted_in, wanted_of}
use Rattle.timetable.specs.Laws.{RowsSayStock, HasStock}
use Rattle.timetable.specs.Starts.{start_in, start_of}

-- what stock rows say of a station and a type
record Say (rows : List Stock) (s m start end : ℕ) : Type 0 where
  at_start : start_in rows s m ≡ start
  at_end : wanted_in rows s m ≡ end

-- a row of the two says it
first_says : (s m : ℕ) (row : Stock) (rows : List Stock) → ((row.station == s) && (row.unit_type == m)) ≡ true → Say (row ∷ rows) s m row.start row.end
first_says s m row rows here = record {
  at_start = cond-true {A = ℕ} ((row.station == s) && (row.unit_type == m)) row.start (start_in rows s m) here;
  at_end = cond-true {A = ℕ} ((row.station == s) && (row.unit_type == m)) row.end (wanted_in rows s m) here;
}

-- past a row of others the later rows do
later_say : (s m start end : ℕ) (row : Stock) (rows : List Stock) → ((row.station == s) && (row.unit_type == m)) ≡ false → Say rows s m start end → Say (row ∷ rows) s m start end
later_say s m start end row rows isnt later = record {
  at_start = cond-false {A = ℕ} ((row.station == s) && (row.unit_type == m)) row.start (start_in rows s m) isnt ∙ later.at_start;
  at_end = cond-false {A = ℕ} ((row.station == s) && (row.unit_type == m)) row.end (wanted_in rows s m) isnt ∙ later.at_end;
}

none_say : (s m : ℕ) (rows : List Stock) → rows_of rows s m ≡ 0 → Say rows s m 0 0
none_say s m [] none = record { at_start = refl; at_end = refl }
none_say s m (row ∷ rows) none = elim (cases_Bool ((row.station == s) && (row.unit_type == m))) [
  | inl here ↦ let one = cond-true {A = ℕ} ((row.station == s) && (row.unit_type == m)) 1 0 here in absurd (omega arith)
  | inr isnt ↦ later_say s m 0 0 row rows isnt (none_say s m rows (omega arith))
]

-- a row is of its own station and type, and counts as one
is_of_both : (first row : Stock) → first ≡ row → ((first.station == row.station) && (first.unit_type == row.unit_type)) ≡ true
is_of_both first row same =
    ap (λ (b : Bool). b && (first.unit_type == row.unit_type)) (eq-eqb first.station row.station (ap (λ (x : Stock). x.station) same))
    ∙ eq-eqb first.unit_type row.unit_type (ap (λ (x : Stock). x.unit_type) same)

counts : (rows : List Stock) (r : ℕ) (row : Stock) → slice_get rows r ≡ Some row → 1 ≤ rows_of rows row.station row.unit_type
counts [] r row at = let inside = slice_get_within {A = Stock} [] r row at in absurd (omega arith)
counts (first ∷ rows) zero row at =
    let same : first ≡ row = get_or_from_slice_get (first ∷ rows) 0 row row at in
    let one = cond-true {A = ℕ} ((first.station == row.station) && (first.unit_type == row.unit_type)) 1 0 (is_of_both first row same) in
    omega arith
counts (first ∷ rows) (suc r) row at = let later = counts rows r row at in omega arith

only_says : (rows : List Stock) (r : ℕ) (row : Stock) → slice_get rows r ≡ Some row → rows_of rows row.station row.unit_type ≤ 1 → Say rows row.station row.unit_type row.start row.end
only_says [] r row at few = let inside = slice_get_within {A = Stock} [] r row at in absurd (omega arith)
only_says (first ∷ rows) zero row at few =
    let same : first ≡ row = get_or_from_slice_get (first ∷ rows) 0 row row at in
    subst (λ (x : Stock). Say (x ∷ rows) row.station row.unit_type row.start row.end) (sym same) (first_says row.station row.unit_type row rows (is_of_both row row refl))
only_says (first ∷ rows) (suc r) row at few =
    let later = counts rows r row at in
    elim (cases_Bool ((first.station == row.station) && (first.unit_type == row.unit_type))) [
      | inl here ↦ let one = cond-true {A = ℕ} ((first.station == row.station) && (first.unit_type == row.unit_type)) 1 0 here in absurd (omega arith)
      | inr isnt ↦
          let none = cond-false {A = ℕ} ((first.station == row.station) && (first.unit_type == row.unit_type)) 1 0 isnt in
          later_say row.station row.unit_type row.start row.end first rows isnt (only_says rows r row at (omega arith))
    ]

of_day : (day : Day) (s m start end : ℕ) → Say day.stock s m start end → HasStock day s m start end
unfolding start_of wanted_of
of_day day s m start end said = record { at_start = said.at_start; at_end = said.at_end }

pub rows_say_stock : RowsSayStock
rows_say_stock = record {
  row = λ day r row at few. of_day day row.station row.unit_type row.start row.end (only_says day.stock r row at few);
  no_row = λ day s m none. of_day day s m 0 0 (none_say s m day.stock none);
}
