-- Rows read one after the other, as a loop does.
use Rattle.std.proofs.Common.{◌≡◌, ℕ, ◌+◌, ◌<◌, Bool, true, false, cond, ltb, List, [], ◌∷◌, ◌++◌, length, Result, Ok, Err}
use Rattle.std.proofs.Common.{refl, sym, ap, ◌∙◌, append_assoc, arith}
use Rattle.std.proofs.lemmas.Bool.{le-ltb, lt-ltb}
use Rattle.std.proofs.lemmas.List.{append-nil, length_push}
use Rattle.rail_csv.specs.declared.refusal.TableRefusal.{TableRefusal}
use Rattle.rail_csv.specs.declared.refusal.TableRefusal.TheVariants.{WrongHeader, TooManyRows}
use Rattle.rail_base.specs.Answers.{◌>>=◌, Fails}
use Rattle.rail_base.proofs.Answers.{Fails-as}
use Rattle.rail_csv.specs.Tables.{Columns, is_header, is_memory, row_of, rows_from, rows_under}
use Rattle.rail_csv.specs.Records.{Records, Took, records_left}
use Rattle.rail_csv.specs.ReadRows.{GoesOn, HasOneMore, HasRead, all_rows, with_front, row_within, width_of}

regroup : {Row : Type 0} (front : List Row) (row : Row) (read : Result (List Row) TableRefusal) → with_front front (read >>= λ rest. Ok (row ∷ rest)) ≡ with_front (front ++ row ∷ []) read
regroup front row (Ok rest) = ap (λ (rows : List _). Ok rows) (sym (append_assoc front (row ∷ []) rest))
regroup front row (Err e) = refl

-- before the first row there is none
pub no_front : {Row : Type 0} (read : Result (List Row) TableRefusal) → with_front [] read ≡ read
no_front (Ok rest) = refl
no_front (Err e) = refl

-- a row past the limit is one too many
pub past_limit : {Row : Type 0} (width limit : ℕ) (columns : Columns Row) (n : ℕ) (fields : List (List ℕ)) → n ≡ limit → row_within width limit columns (n + 1) fields ≡ Err TooManyRows
past_limit width limit columns n fields full =
    let past : ltb limit (n + 1) ≡ true = lt-ltb _ _ (omega (arith, full)) in
    rw past refl

-- up to the limit a row is what its fields are read as
pub within_limit : {Row : Type 0} (width limit : ℕ) (columns : Columns Row) (n : ℕ) (fields : List (List ℕ)) → n < limit → row_within width limit columns (n + 1) fields ≡ row_of width columns (n + 1) fields
within_limit width limit columns n fields room =
    let below : ltb limit (n + 1) ≡ false = le-ltb _ _ (omega arith) in
    rw below refl

-- ---- one turn of the loop

pub goes_on : {Row : Type 0} (width limit : ℕ) (columns : Columns Row) (front : List Row) (left : List (List (List ℕ))) (fields : List (List ℕ)) (others : List (List (List ℕ))) (row : Row) (total : Result (List Row) TableRefusal)
    → length front < limit → left ≡ fields ∷ others → row_of width columns (length front + 1) fields ≡ Ok row
    → with_front front (rows_from width limit columns (length front + 1) left) ≡ total
    → with_front (front ++ row ∷ []) (rows_from width limit columns (length (front ++ row ∷ []) + 1) others) ≡ total
unfolding rows_from
goes_on width limit columns front left fields others row total room is read so_far =
    let below : ltb limit (length front + 1) ≡ false = le-ltb _ _ (omega arith) in
    let one : with_front front (rows_from width limit columns (length front + 1) left) ≡ with_front (front ++ row ∷ []) (rows_from width limit columns (length front + 1 + 1) others) =
    rw (is, below, read) (regroup front row (rows_from width limit columns (length front + 1 + 1) others)) in
    let number : length (front ++ row ∷ []) ≡ length front + 1 = length_push front row in
    rw number (sym one ∙ so_far)

pub is_done : {Row : Type 0} (width limit : ℕ) (columns : Columns Row) (front : List Row) (left : List (List (List ℕ))) (total : Result (List Row) TableRefusal)
    → left ≡ [] → with_front front (rows_from width limit columns (length front + 1) left) ≡ total → total ≡ Ok front
unfolding rows_from
is_done width limit columns front left total is so_far =
    let one : with_front front (rows_from width limit columns (length front + 1) left) ≡ Ok front = rw is (ap (λ (rows : List _). Ok rows) (append-nil front)) in
    sym so_far ∙ one

-- a row that is refused, or one too many
pub row_fails : {Row : Type 0} (width limit : ℕ) (columns : Columns Row) (front : List Row) (left : List (List (List ℕ))) (fields : List (List ℕ)) (others : List (List (List ℕ))) (e : TableRefusal)
    → left ≡ fields ∷ others → Fails is_memory e (row_within width limit columns (length front + 1) fields) → Fails is_memory e (all_rows width limit columns front left)
unfolding rows_from
row_fails width limit columns front left fields others e is f =
    Fails-as is_memory e (row_within width limit columns (length front + 1) fields) (all_rows width limit columns front left) (λ refusal read.
    let one : all_rows width limit columns front (fields ∷ others) ≡ Err refusal =
    by_choice front (ltb limit (length front + 1)) (row_of width columns (length front + 1) fields) (λ row. rows_from width limit columns (length front + 1 + 1) others >>= λ rest. Ok (row ∷ rest)) refusal read in
    rw is one) f
  where
    by_choice : {Row : Type 0} (front : List Row) (b : Bool) (read : Result Row TableRefusal) (next : Row → Result (List Row) TableRefusal) (e : TableRefusal)
        → cond b (Err TooManyRows) read ≡ Err e → with_front front (cond b (Err TooManyRows) (read >>= next)) ≡ Err e
    by_choice front true read next e is = cc
    by_choice front false (Ok row) next e is = absurd cc
    by_choice front false (Err d) next e is = cc

-- one more row
pub one_more : {Row : Type 0} (width limit : ℕ) (columns : Columns Row) (rows more : List Row) (fields : List (List ℕ)) (before after : Records) → Took before after fields → HasOneMore width limit columns fields rows more → GoesOn width limit columns rows more before after
one_more width limit columns rows more fields before after t has =
    let total = goes_on width limit columns rows (records_left before) fields (records_left after) has.row (all_rows width limit columns rows (records_left before)) has.room t.first has.read refl in
    record {
      reads = t.next;
      few = omega (arith, has.room, ap length has.items, length_push rows has.row);
      less = omega (arith, ap length t.first);
      total = rw has.items total;
    }

-- ---- the header

header_by_choice : {Row : Type 0} (right : Bool) (width : ℕ) (rows : Result (List Row) TableRefusal) (e : TableRefusal) → cond right (Ok width) (Err WrongHeader) ≡ Err e → cond right rows (Err WrongHeader) ≡ Err e
header_by_choice true width rows e is = absurd cc
header_by_choice false width rows e is = cc

-- a wrong header refuses the table
pub header_fails : {Row : Type 0} (words : List (List ℕ)) (fewest limit : ℕ) (columns : Columns Row) (e : TableRefusal) (records : List (List (List ℕ)))
    → Fails is_memory e (width_of words fewest records) → Fails is_memory e (rows_under words fewest limit columns records)
unfolding rows_under
header_fails words fewest limit columns e [] f =
    Fails-as is_memory e (width_of words fewest []) (rows_under words fewest limit columns []) (λ refusal read. header_by_choice false 0 (Err WrongHeader) refusal read) f
header_fails words fewest limit columns e (first ∷ others) f =
    Fails-as is_memory e (width_of words fewest (first ∷ others)) (rows_under words fewest limit columns (first ∷ others)) (λ refusal read. header_by_choice (is_header words fewest first) (length first) (rows_from (length first) limit columns 1 others) refusal read) f

-- under a right one stand the rows
pub header_goes : {Row : Type 0} (words : List (List ℕ)) (fewest width limit : ℕ) (columns : Columns Row) (before after : Records) (records : List (List (List ℕ))) → records_left before ≡ records → HasRead words fewest width before after
    → rows_from width limit columns 1 (records_left after) ≡ rows_under words fewest limit columns records
unfolding rows_under
header_goes words fewest width limit columns before after records all has =
    let left : records ≡ has.first ∷ records_left after = sym all ∙ has.left in
    let header : width_of words fewest (has.first ∷ records_left after) ≡ Ok width = sym (ap (width_of words fewest) has.left) ∙ has.header in
    rw (left, right (is_header words fewest has.first) (length has.first) width header, has.wide) refl
  where
    right : (b : Bool) (found width : ℕ) → cond b (Ok found) (Err WrongHeader) ≡ Ok width → b ≡ true
    right true found width is = refl
    right false found width is = absurd cc
