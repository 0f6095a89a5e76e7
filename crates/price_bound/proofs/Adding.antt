-- Amounts in a table that is added to: in the rows and the column that it is added to they are more by it, and else
-- they stay.
use Rattle.std.proofs.Common.{◌≡◌, ◌≢◌, ℕ, zero, suc, ◌+◌, ◌*◌, ◌^◌, ◌-◌, ◌<◌, ◌≤◌, List, [], ◌∷◌, length, set, get_or}
use Rattle.std.proofs.Common.{replicate, map, Bool, ◌&&◌, refl, sym, ap, ◌∙◌, subst, arith, ℤ, pos, negsuc, ◌+ℤ◌, ◌-ℤ◌}
use Rattle.std.proofs.Common.{inl, inr, length-set, unsigned_abs}
use Rattle.std.specs.Prelude.{◌==◌, if◌then◌else◌, min}
use Rattle.std.specs.Int.{saturate_to_bits}
use Rattle.std.proofs.lemmas.Bool.{cases_eq, eq-eqb, ne_eqb}
use Rattle.std.proofs.Common.{to_z, of_z, w64}
use Rattle.std.proofs.lemmas.Int.{ints, fits_signed_from_abs, to_z-of_z}
use Rattle.std.proofs.lemmas.List.{get_or-replicate, get_or-set_same, get_or-set_other, length-map, length-replicate}
use Rattle.branch_tree.specs.IntSums.{int_sum}
use Rattle.inventory.specs.CountTable.{changed_at, changed_in, plus}
use Rattle.inventory.specs.Counted.{HasPlaces, counts_of, number_at}
use Rattle.inventory.proofs.Holds.{map_entry, zero_entry}
use Rattle.timetable.specs.Day.{Day}
use Rattle.price_bound.specs.CellSizes.{IsSmall}
use Rattle.price_bound.specs.PriceTables.{HasSize, amount_at, cleared_table}
use Rattle.price_bound.proofs.IntLaws.{none_more}

-- ---- sizes of numbers

pub small_sum : (a b : ℕ) (x y : ℤ) → IsSmall a x → IsSmall b y → IsSmall (a + b) (x +ℤ y)
small_sum a b x y p q = record { above = omega (arith, ints, p.above, q.above); below = omega (arith, ints, p.below, q.below) }

-- so it is at any bound that is no less than both together
pub small_total : (a b most : ℕ) (x y z : ℤ) → a + b ≤ most → z ≡ x +ℤ y → IsSmall a x → IsSmall b y → IsSmall most z
small_total a b most x y z le e p q =
    record { above = omega (arith, ints, le, e, p.above, q.above); below = omega (arith, ints, le, e, p.below, q.below) }

-- so is a difference, at any bound that is no less than both together
pub small_difference : (a b most : ℕ) (x y z : ℤ) → a + b ≤ most → z ≡ x -ℤ y → IsSmall a x → IsSmall b y → IsSmall most z
small_difference a b most x y z le e p q =
    record { above = omega (arith, ints, le, e, p.above, q.below); below = omega (arith, ints, le, e, p.below, q.above) }

pub small_zero : (a : ℕ) → IsSmall a (pos 0)
small_zero a = record { above = omega (arith, ints); below = omega (arith, ints) }

pub small_more : (a b : ℕ) (x : ℤ) → a ≤ b → IsSmall a x → IsSmall b x
small_more a b x le p = record { above = omega (arith, ints, le, p.above); below = omega (arith, ints, le, p.below) }

pub small_by_size : (a : ℕ) (x : ℤ) → unsigned_abs x ≤ a → IsSmall a x
small_by_size a (pos n) le = record { above = omega (arith, ints); below = omega (arith, ints, le) }
small_by_size a (negsuc n) le = record { above = omega (arith, ints, le); below = omega (arith, ints) }

-- a small number is read as it is
pub read_is : (b : ℕ) (x : ℤ) → b ≤ 4000000000000000000 → IsSmall b x → to_z w64 (of_z w64 x) ≡ x
read_is b x le small = to_z-of_z w64 x (fits_signed_from_abs w64 x (below x (small_more b 4000000000000000000 x le small)))
  where
    below : (z : ℤ) → IsSmall 4000000000000000000 z → unsigned_abs z < 2 ^ 63
    below (pos n) few = (let le = few.below in omega (arith, ints))
    below (negsuc n) few = (let le = few.above in omega (arith, ints))

pub plus_is : (x y : ℤ) → IsSmall 4000000000000000000 (x +ℤ y) → plus x y ≡ x +ℤ y
plus_is x y small = of_sum (x +ℤ y) small
  where
    of_sum : (z : ℤ) → IsSmall 4000000000000000000 z → saturate_to_bits 63 z ≡ z
    of_sum (pos n) small = (let le = small.below in let least : min n (2 ^ 63 - 1) ≡ n = omega (arith, ints) in ap pos least)
    of_sum (negsuc n) small = (let le = small.above in let least : min n (2 ^ 63 - 1) ≡ n = omega (arith, ints) in ap negsuc least)

-- ---- one amount changed

module _ (rows columns : ℕ) (table : List (List ℤ)) (size : HasSize rows columns table) (r0 c0 : ℕ) (x : ℤ) where
  abbrev row : List ℤ
  row = changed_at c0 x (get_or table r0 [])

  row_here : (r : ℕ) → r < rows → r0 ≡ r → get_or (changed_in r0 c0 x table) r [] ≡ changed_at c0 x (get_or table r [])
  row_here r below same = subst (λ (k : ℕ). get_or (set table r0 row) k [] ≡ changed_at c0 x (get_or table k [])) same
      (get_or-set_same table r0 row [] (omega (arith, below, same, size.height)))

  row_other : (r : ℕ) → r0 ≢ r → get_or (changed_in r0 c0 x table) r [] ≡ get_or table r []
  row_other r differ = get_or-set_other table r0 r row [] (λ e. differ (sym e))

  pub changed_size : HasSize rows columns (changed_in r0 c0 x table)
  changed_size = record {
    height = length-set table r0 row ∙ size.height;
    widths = λ r below. elim (cases_eq r0 r) [
      | inl same ↦ ap length (row_here r below same) ∙ length-set (get_or table r []) c0 (plus (get_or (get_or table r []) c0 (pos 0)) x) ∙ size.widths r below
      | inr differ ↦ ap length (row_other r differ) ∙ size.widths r below
    ];
  }

  module _ (r c : ℕ) (r_below : r < rows) (c_below : c < columns) where
    pub changed_here : r0 ≡ r → c ≡ c0 → amount_at (changed_in r0 c0 x table) r c ≡ plus (amount_at table r c) x
    changed_here same_row same =
        ap (λ (ms : List ℤ). get_or ms c (pos 0)) (row_here r r_below same_row)
        ∙ subst (λ (k : ℕ). get_or (changed_at c0 x (get_or table r [])) k (pos 0) ≡ plus (amount_at table r k) x) (sym same)
        (get_or-set_same (get_or table r []) c0 (plus (get_or (get_or table r []) c0 (pos 0)) x) (pos 0) (omega (arith, c_below, same, size.widths r r_below)))

    other_column : r0 ≡ r → c ≢ c0 → amount_at (changed_in r0 c0 x table) r c ≡ amount_at table r c
    other_column same_row differ =
        ap (λ (ms : List ℤ). get_or ms c (pos 0)) (row_here r r_below same_row)
        ∙ get_or-set_other (get_or table r []) c0 c (plus (get_or (get_or table r []) c0 (pos 0)) x) (pos 0) differ

    other_row : r0 ≢ r → amount_at (changed_in r0 c0 x table) r c ≡ amount_at table r c
    other_row differ = ap (λ (ms : List ℤ). get_or ms c (pos 0)) (row_other r differ)

    module _ (small : IsSmall 2000000000000000000 (amount_at table r c)) (small_x : IsSmall 2000000000000000000 x) where
      in_row : r0 ≡ r → amount_at (changed_in r0 c0 x table) r c ≡ amount_at table r c +ℤ (if c == c0 then x else pos 0)
      in_row same_row = elim (cases_eq c c0) [
        | inl same ↦
            changed_here same_row same ∙ plus_is (amount_at table r c) x (small_more (2000000000000000000 + 2000000000000000000) 4000000000000000000 (amount_at table r c +ℤ x) (omega arith)
            (small_sum 2000000000000000000 2000000000000000000 (amount_at table r c) x small small_x))
            ∙ ap (λ (b : Bool). amount_at table r c +ℤ (if b then x else pos 0)) (sym (eq-eqb c c0 same))
        | inr differ ↦
            other_column same_row differ ∙ none_more (amount_at table r c) (if c == c0 then x else pos 0) (ap (λ (b : Bool). if b then x else pos 0) (ne_eqb c c0 differ))
      ]

      pub changed_amount : amount_at (changed_in r0 c0 x table) r c ≡ amount_at table r c +ℤ (if (r0 == r) && (c == c0) then x else pos 0)
      changed_amount = elim (cases_eq r0 r) [
        | inl same ↦ in_row same ∙ ap (λ (b : Bool). amount_at table r c +ℤ (if b && (c == c0) then x else pos 0)) (sym (eq-eqb r0 r same))
        | inr differ ↦ other_row differ ∙ none_more (amount_at table r c) (if (r0 == r) && (c == c0) then x else pos 0)
            (ap (λ (b : Bool). if b && (c == c0) then x else pos 0) (ne_eqb r0 r differ))
      ]

-- ---- a cleared table

cleared_row : (table : List (List ℤ)) (r : ℕ) → get_or (cleared_table table) r [] ≡ map (λ _. pos 0) (get_or table r [])
cleared_row table r = map_entry (map (λ (_ : ℤ). pos 0)) table r refl

pub cleared_amount : (table : List (List ℤ)) (r c : ℕ) → amount_at (cleared_table table) r c ≡ pos 0
cleared_amount table r c = ap (λ (xs : List ℤ). get_or xs c (pos 0)) (cleared_row table r) ∙ zero_entry (get_or table r []) c

pub cleared_size : (rows columns : ℕ) (table : List (List ℤ)) → HasSize rows columns table → HasSize rows columns (cleared_table table)
cleared_size rows columns table size = record {
  height = length-map table (map (λ _. pos 0)) ∙ size.height;
  widths = λ r below. ap length (cleared_row table r) ∙ length-map (get_or table r []) (λ _. pos 0) ∙ size.widths r below;
}

row_again : (row : List ℤ) → map (λ _. pos 0) (map (λ _. pos 0) row) ≡ map (λ _. pos 0) row
row_again [] = refl
row_again (x ∷ row) = ap (λ (xs : List ℤ). pos 0 ∷ xs) (row_again row)

pub cleared_again : (table : List (List ℤ)) → cleared_table (cleared_table table) ≡ cleared_table table
cleared_again [] = refl
cleared_again (row ∷ table) =
    ap (λ (xs : List ℤ). xs ∷ cleared_table (cleared_table table)) (row_again row)
    ∙ ap (λ (rows : List (List ℤ)). map (λ _. pos 0) row ∷ rows) (cleared_again table)

zero_row : (columns : ℕ) → map (λ _. pos 0) (replicate columns (pos 0)) ≡ replicate columns (pos 0)
zero_row zero = refl
zero_row (suc columns) = ap (λ (xs : List ℤ). pos 0 ∷ xs) (zero_row columns)

zero_rows : (rows : ℕ) (amounts : List ℤ) → map (λ _. pos 0) amounts ≡ amounts → cleared_table (replicate rows amounts) ≡ replicate rows amounts
zero_rows zero amounts same = refl
zero_rows (suc rows) amounts same =
    ap (λ (xs : List ℤ). xs ∷ cleared_table (replicate rows amounts)) same
    ∙ ap (λ (xs : List (List ℤ)). amounts ∷ xs) (zero_rows rows amounts same)

-- zeros are as cleared
pub zeros_clear : (rows columns : ℕ) (table : List (List ℤ)) → table ≡ replicate rows (replicate columns (pos 0)) → cleared_table table ≡ table
zeros_clear rows columns table is =
    ap cleared_table is ∙ zero_rows rows (replicate columns (pos 0)) (zero_row columns) ∙ sym is

pub cleared_number : (yards : List (List (List ℤ))) (s m k : ℕ) → number_at (map cleared_table yards) s m k ≡ pos 0
cleared_number yards s m k = ap (λ (table : List (List ℤ)). amount_at table m k) (map_entry cleared_table yards s refl) ∙ cleared_amount (get_or yards s []) m k

pub cleared_places : (day : Day) (yards : List (List (List ℤ))) → HasPlaces day yards → HasPlaces day (map cleared_table yards)
cleared_places day yards places = record {
  stations = length-map yards cleared_table ∙ places.stations;
  types = λ s lt. ap length (map_entry cleared_table yards s refl) ∙ length-map (get_or yards s []) (map (λ (_ : ℤ). pos 0)) ∙ places.types s lt;
  minutes = λ s m lt lt'. ap (λ (table : List (List ℤ)). length (get_or table m [])) (map_entry cleared_table yards s refl)
      ∙ ap length (cleared_row (get_or yards s []) m) ∙ length-map (counts_of yards s m) (λ (_ : ℤ). pos 0) ∙ places.minutes s m lt lt';
}

pub zeros_size : (rows columns : ℕ) → HasSize rows columns (replicate rows (replicate columns (pos 0)))
zeros_size rows columns = record {
  height = length-replicate rows (replicate columns (pos 0));
  widths = λ r below. ap length (get_or-replicate rows r (replicate columns (pos 0)) [] below) ∙ length-replicate columns (pos 0);
}

pub zeros_sized : (rows columns r c : ℕ) (table : List (List ℤ)) → table ≡ replicate r (replicate c (pos 0)) → r ≡ rows → c ≡ columns
    → HasSize rows columns table
zeros_sized rows columns r c table is e f =
    subst (HasSize rows columns) (sym (is ∙ ap (λ (n : ℕ). replicate n (replicate c (pos 0))) e
    ∙ ap (λ (n : ℕ). replicate rows (replicate n (pos 0))) f)) (zeros_size rows columns)

-- ---- sums stay small

pub sum_small : {X : Type 0} (f : X → ℤ) (bound : ℕ) (xs : List X) → ((k : ℕ) (d : X) → k < length xs → IsSmall bound (f (get_or xs k d))) → IsSmall (length xs * bound) (int_sum f xs)
sum_small f bound [] each = small_zero (0 * bound)
sum_small f bound (x ∷ xs) each =
    small_more (bound + length xs * bound) (suc (length xs) * bound) (f x +ℤ int_sum f xs) (next (length xs) bound)
    (small_sum bound (length xs * bound) (f x) (int_sum f xs) (each 0 x (omega arith)) (sum_small f bound xs (λ k d lt. each (suc k) d (omega (arith, lt)))))
  where
    next : (n b : ℕ) → b + n * b ≤ suc n * b
    next n b = grind arith
