-- Rows that keep the values of cells: numbers that stand for values, or for none.
use Rattle.std.proofs.Common.{◌≡◌, ℕ, zero, suc, ◌+◌, ◌<◌, ◌≤◌, List, [], ◌∷◌, drop, length, get_or, set, replicate, map, length-set}
use Rattle.std.proofs.Common.{Option, Some, None, refl, sym, ap, ◌∙◌, arith, ℤ, pos, ◌<ℤ◌, Bool, true, false, inl, inr}
use Rattle.std.specs.Prelude.{if◌then◌else◌, int_lt}
use Rattle.std.proofs.lemmas.Bool.{cases_eq, cases_lt}
use Rattle.std.proofs.lemmas.Int.{ints}
use Rattle.std.proofs.lemmas.List.{ext_get_or, get_or-drop, get_or-map, get_or_past, get_or-set_other, get_or-set_same, length-map, map-set}
use Rattle.price_bound.specs.declared.cells.Cell.{Cell}
use Rattle.price_bound.specs.CellRows.{IsHeld, cell_in}
use Rattle.price_bound.specs.Paths.{entered, least_from, lower_cell}

abbrev pub no_value : ℤ
no_value = pos 9100000000000000000

pub in_none : cell_in no_value ≡ None
in_none = refl

pub none_in : (n : ℕ) → map cell_in (replicate n no_value) ≡ replicate n None
none_in zero = refl
none_in (suc n) = ap (λ (row : List (Option Cell)). None ∷ row) (none_in n)

-- a value that is small is no less than the limit
abbrev some_of : ℤ → Option Cell
some_of value = Some (record { value = value; next = 0 })

read_below : (value : ℤ) → value <ℤ pos 9050000000000000000 → cell_in value ≡ some_of value
read_below value under = by (int_lt value (pos 9050000000000000000)) refl
  where
    by : (less : Bool) → int_lt value (pos 9050000000000000000) ≡ less → (if less then some_of value else None) ≡ some_of value
    by true is = refl
    by false is = absurd (omega (arith, ints, is, under))

-- a composition that has no value has no cell
pub no_cell : (values : List ℤ) (row : List (Option Cell)) (comp : ℕ) → map cell_in values ≡ row
    → (comp < length values → get_or values comp (pos 0) ≡ no_value) → get_or row comp None ≡ None
no_cell values row comp view none =
    let seen : get_or row comp None ≡ get_or (map cell_in values) comp None = ap (λ (cells : List (Option Cell)). get_or cells comp None) (sym view) in
    elim (cases_lt comp (length values)) [
      | inl below ↦ seen ∙ get_or-map cell_in values comp (pos 0) None below ∙ ap cell_in (none below)
      | inr past ↦ seen ∙ get_or_past (map cell_in values) comp None (omega (arith, past, length-map values cell_in))
    ]

-- a value that stands for no cell is the one that stands for none
pub none_is : (value : ℤ) → IsHeld value → cell_in value ≡ None → value ≡ no_value
none_is value (inl under) none = absurd (let some : None ≡ some_of value = sym none ∙ read_below value under in cc)
none_is value (inr is) none = is

-- ---- a row whose values are taken out one after another

-- no composition before one has a value, nor has one from an end on
pub record AreOut (n end comp : ℕ) (values : List ℤ) : Type 0 where
  pub long : length values ≡ n
  pub before : (k : ℕ) → k < comp → k < n → get_or values k (pos 0) ≡ no_value
  pub after : (k : ℕ) → end ≤ k → k < n → get_or values k (pos 0) ≡ no_value

pub out_more : (n end comp : ℕ) (values : List ℤ) → AreOut n end comp values → comp < n → AreOut n end (suc comp) (set values comp no_value)
out_more n end comp values done inside = record {
  long = length-set values comp no_value ∙ done.long;
  before = λ k lt below. elim (cases_eq k comp) [
    | inl same ↦ put k same
    | inr differ ↦ get_or-set_other values comp k no_value (pos 0) differ ∙ done.before k (omega (arith, lt, differ)) below
  ];
  after = λ k past below. elim (cases_eq k comp) [
    | inl same ↦ put k same
    | inr differ ↦ get_or-set_other values comp k no_value (pos 0) differ ∙ done.after k past below
  ];
}
  where
    put : (k : ℕ) → k ≡ comp → get_or (set values comp no_value) k (pos 0) ≡ no_value
    put k same = ap (λ (i : ℕ). get_or (set values comp no_value) i (pos 0)) same
        ∙ get_or-set_same values comp no_value (pos 0) (omega (arith, inside, done.long))

pub out_all : (n end comp : ℕ) (values : List ℤ) → AreOut n end comp values → end ≤ comp → (k : ℕ) → k < n → get_or values k (pos 0) ≡ no_value
out_all n end comp values done past k below = elim (cases_lt k comp) [
  | inl before ↦ done.before k before below
  | inr after ↦ done.after k (omega (arith, past, after)) below
]

pub cleared_all : (values : List ℤ) (old : List (Option Cell)) → length values ≡ length old
    → ((k : ℕ) → k < length old → get_or values k (pos 0) ≡ no_value) → map cell_in values ≡ map (λ _. None) old
cleared_all values old long none =
    ext_get_or None (map cell_in values) (map (λ _. None) old)
    (length-map values cell_in ∙ long ∙ sym (length-map old (λ (_ : Option Cell). None)))
    (λ k lt.
    let below : k < length values = omega (arith, lt, length-map values cell_in) in
    get_or-map cell_in values k (pos 0) None below
    ∙ ap cell_in (none k (omega (arith, below, long)))
    ∙ sym (get_or-map (λ (_ : Option Cell). None) old k None None (omega (arith, below, long))))

-- ---- a row of which one value is put

pub value_put : (values : List ℤ) (row : List (Option Cell)) (place comp : ℕ) (put value : ℤ) (cell : Option Cell) → put ≡ value
    → map cell_in values ≡ row → place ≡ comp → cell_in value ≡ cell → map cell_in (set values place put) ≡ set row comp cell
value_put values row place comp put value cell read view number is =
    map-set cell_in values place put
    ∙ ap (set (map cell_in values) place) (ap cell_in read ∙ is)
    ∙ ap (λ (k : ℕ). set (map cell_in values) k cell) number
    ∙ ap (λ (cells : List (Option Cell)). set cells comp cell) view

-- ---- the least value

-- compositions without a cell change nothing of the least
lower_none : (cell : Option Cell) → lower_cell cell None ≡ cell
lower_none None = refl
lower_none (Some cell) = refl

pub least_of_none : (comp : ℕ) (best : Option Cell) (row : List (Option Cell)) → ((k : ℕ) → k < length row → get_or row k None ≡ None)
    → least_from comp best row ≡ best
least_of_none comp best [] none = refl
least_of_none comp best (cell ∷ row) none =
    let here : cell ≡ None = none 0 (omega arith) in
    ap (λ (o : Option Cell). least_from (suc comp) (lower_cell best (entered comp o)) row) here
    ∙ least_of_none (suc comp) (lower_cell best None) row (λ k lt. none (suc k) (omega (arith, lt)))
    ∙ lower_none best

-- nor those before the first that has one
pub least_past : (n comp to : ℕ) (best : Option Cell) (row : List (Option Cell)) → n + comp ≡ to
    → ((k : ℕ) → k < n → get_or row k None ≡ None) → least_from to best (drop n row) ≡ least_from comp best row
least_past zero comp to best row at none = let same : to ≡ comp = omega (arith, at) in ap (λ (k : ℕ). least_from k best row) same
least_past (suc n) comp to best [] at none = refl
least_past (suc n) comp to best (cell ∷ row) at none =
    let here : cell ≡ None = none 0 (omega arith) in
    least_past n (suc comp) to best row (omega (arith, at)) (λ k lt. none (suc k) (omega (arith, lt)))
    ∙ sym (ap (λ (o : Option Cell). least_from (suc comp) (lower_cell best (entered comp o)) row) here
    ∙ ap (λ (o : Option Cell). least_from (suc comp) o row) (lower_none best))

pub least_rest : (comp end : ℕ) (best : Option Cell) (row : List (Option Cell)) → end ≤ comp → ((k : ℕ) → end ≤ k → get_or row k None ≡ None)
    → least_from comp best (drop comp row) ≡ best
least_rest comp end best row past none = least_of_none comp best (drop comp row)
    (λ k lt. get_or-drop comp row k None ∙ none (comp + k) (omega (arith, past)))
