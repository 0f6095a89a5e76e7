-- No station has two stock rows of one type, and none wants more units than a stock row may say.
use Rattle.std.proofs.Common.{◌≡◌, ℕ, suc, ◌≤◌, Bool, List, [], ◌∷◌, true, false, cond, refl, sym, subst, ◌∙◌, arith}
use Rattle.std.proofs.Common.{⊎_elim}
use Rattle.std.specs.Prelude.{◌==◌, ◌&&◌, if◌then◌else◌}
use Rattle.std.specs.List.{All, AllPairs, AllZip}
use Rattle.std.proofs.lemmas.List.Elements.{All-head, All-tail}
use Rattle.std.proofs.lemmas.Bool.{cases_Bool, and_parts, eqb-true, cond-true, cond-false}
use Rattle.rail_base.specs.declared.limits.TheConstants.{MAX_STOCK}
use Rattle.rail_csv.specs.declared.rows.StockRow.{StockRow}
use Rattle.rail_csv.specs.Rows.{IsStockRow}
use Rattle.rules.specs.declared.records.Stock.{Stock}
use Rattle.day_tables.specs.Accepted.{rows_of, IsStocked}
use Rattle.day_tables.specs.Day.{Day, wanted_in, wanted_of}
use Rattle.day_tables.specs.Meaning.{IsOtherStock, IsStockOf}

none_other : (s m : ℕ) (row : Stock) (rows : List Stock) → row.station ≡ s → row.unit_type ≡ m → All (IsOtherStock row) rows → rows_of rows s m ≡ 0
none_other s m row [] station unit_type others = refl
none_other s m row (other ∷ rows) station unit_type others =
    let rest = none_other s m row rows station unit_type (λ i d lt. others (suc i) d (omega arith)) in
    ⊎_elim
    (λ (is : ((other.station == s) && (other.unit_type == m)) ≡ true).
    let both = and_parts (other.station == s) (other.unit_type == m) is in
    absurd (others 0 other (omega arith) (station ∙ sym (eqb-true other.station s both.0), unit_type ∙ sym (eqb-true other.unit_type m both.1))))
    (λ (isnt : ((other.station == s) && (other.unit_type == m)) ≡ false).
    let none : cond {A = ℕ} ((other.station == s) && (other.unit_type == m)) 1 0 ≡ 0 = cond-false _ 1 0 isnt in omega arith)
    (cases_Bool ((other.station == s) && (other.unit_type == m)))

rows_once : (s m : ℕ) (rows : List Stock) → AllPairs IsOtherStock rows → rows_of rows s m ≤ 1
rows_once s m [] apart = omega arith
rows_once s m (row ∷ rows) apart =
    ⊎_elim
    (λ (is : ((row.station == s) && (row.unit_type == m)) ≡ true).
    let both = and_parts (row.station == s) (row.unit_type == m) is in
    let none = none_other s m row rows (eqb-true row.station s both.0) (eqb-true row.unit_type m both.1) (λ i d lt. apart 0 (suc i) d (omega arith) (omega arith)) in
    let one : cond {A = ℕ} ((row.station == s) && (row.unit_type == m)) 1 0 ≡ 1 = cond-true _ 1 0 is in omega arith)
    (λ (isnt : ((row.station == s) && (row.unit_type == m)) ≡ false).
    let rest = rows_once s m rows (λ i j d lt within. apart (suc i) (suc j) d (omega arith) (omega arith)) in
    let none : cond {A = ℕ} ((row.station == s) && (row.unit_type == m)) 1 0 ≡ 0 = cond-false _ 1 0 isnt in omega arith)
    (cases_Bool ((row.station == s) && (row.unit_type == m)))

one_of : (b : Bool) (n rest : ℕ) → n ≤ MAX_STOCK → rest ≤ MAX_STOCK → (if b then n else rest) ≤ MAX_STOCK
one_of true n rest few others = few
one_of false n rest few others = others

few_wanted : (day : Day) (rows : List StockRow) (stock : List Stock) (s m : ℕ) → AllZip (IsStockOf day) rows stock → All IsStockRow rows → wanted_in stock s m ≤ MAX_STOCK
few_wanted day [] [] s m are within = omega arith
few_wanted day [] (entry ∷ stock) s m are within = absurd are
few_wanted day (row ∷ rows) [] s m are within = absurd are
few_wanted day (row ∷ rows) (entry ∷ stock) s m are within =
    let first : IsStockRow row = All-head IsStockRow row rows within in
    one_of ((entry.station == s) && (entry.unit_type == m)) entry.end (wanted_in stock s m)
    (subst (λ (n : ℕ). n ≤ MAX_STOCK) (sym are.0.end) first.end.1) (few_wanted day rows stock s m are.1 (All-tail IsStockRow row rows within))

pub stocked : (day : Day) (rows : List StockRow) → AllPairs IsOtherStock day.stock → AllZip (IsStockOf day) rows day.stock → All IsStockRow rows → IsStocked day
unfolding wanted_of
stocked day rows apart are within = record {
  once = λ s m. rows_once s m day.stock apart;
  few = λ s m. few_wanted day rows day.stock s m are within;
}
