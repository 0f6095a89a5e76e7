-- A table is read to its rows exactly where it is a table of them, and else to its first wrong thing.
use Rattle.std.proofs.Common.{◌≡◌, ℕ, zero, suc, ◌+◌, ◌≤◌, ◌<◌, Bool, true, false, cond, ltb, List, [], ◌∷◌, length}
use Rattle.std.proofs.Common.{get_or, Some, Result, Ok, Err, refl, sym, ap, subst, ◌∙◌, arith, inl, inr, ◌⊎◌, add-one}
use Rattle.std.specs.Prelude.{IsOk}
use Rattle.std.specs.List.{slice_get}
use Rattle.std.proofs.lemmas.Bool.{ltb-false, ltb-true, le-ltb, lt-ltb, false≢true}
use Rattle.rail_csv.specs.declared.refusal.TableRefusal.{TableRefusal}
use Rattle.rail_csv.specs.declared.refusal.TableRefusal.TheVariants.{TooManyRows}
use Rattle.rail_base.specs.Answers.{◌>>=◌}
use Rattle.rail_csv.specs.Tables.{Columns, is_header, row_of, rows_from, rows_under}
use Rattle.rail_csv.specs.Laws.{row_at, IsTable, AreRightBefore, IsFirstWrong, IsFirstWrongUnder}
use Rattle.rail_csv.proofs.Headers.{has_header, header_is, no_header, refuted}
use Rattle.rail_csv.proofs.Steps.{step, same, went_on}

-- ---- rows that are read

-- the records from a row on read as these rows
pub record AreRead {Row : Type 0} (width limit : ℕ) (columns : Columns Row) (row : ℕ) (records : List (List (List ℕ))) (rows : List Row) : Type 0 where
  pub count : length records ≡ length rows
  pub few : length rows + row ≤ limit + 1
  pub each : (k : ℕ) (r : Row) → slice_get rows k ≡ Some r → row_of width columns (k + row) (get_or records k []) ≡ Ok r

no_row : {Row : Type 0} (k : ℕ) (r : Row) {P : Type 0} → slice_get [] k ≡ Some r → P
no_row k r e = absurd cc

more_read : {Row : Type 0} (width limit : ℕ) (columns : Columns Row) (row : ℕ) (fields : List (List ℕ)) (others : List (List (List ℕ))) (first : Row) (rest : List Row)
    → row_of width columns row fields ≡ Ok first → AreRead width limit columns (row + 1) others rest → (k : ℕ) (r : Row) → slice_get (first ∷ rest) k ≡ Some r → row_of width columns (k + row) (get_or (fields ∷ others) k []) ≡ Ok r
more_read width limit columns row fields others first rest here there zero r e =
    let number : 0 + row ≡ row = omega arith in
    let same_row : first ≡ r = cc in
    rw (number, ← same_row) here
more_read width limit columns row fields others first rest here there (suc k) r e =
    let number : suc k + row ≡ k + (row + 1) = omega arith in
    rw number (there.each k r e)

pub read_rows_are : {Row : Type 0} (width limit : ℕ) (columns : Columns Row) (records : List (List (List ℕ))) (row : ℕ) (rows : List Row) → row ≤ limit + 1
    → rows_from width limit columns row records ≡ Ok rows → AreRead width limit columns row records rows
unfolding rows_from
read_rows_are width limit columns [] row rows le e =
    subst (λ (rs : List _). AreRead width limit columns row [] rs) (same [] rows e) (record { count = refl; few = omega arith; each = λ k r e. no_row k r e })
read_rows_are width limit columns (fields ∷ others) row rows le e =
    let k = went_on (ltb limit row) _ rows _ e in
    let below : row ≤ limit = ltb-false limit row k.0 in
    step k.1 (λ r. row_of width columns row fields ≡ Ok r) (λ r read. read) (λ first here e1.
    step e1 (λ rest. AreRead width limit columns (row + 1) others rest) (λ rest read. read_rows_are width limit columns others (row + 1) rest (omega arith) read) (λ rest there e2.
    subst (λ (rs : List _). AreRead width limit columns row (fields ∷ others) rs) (same (first ∷ rest) rows e2) (record {
      count = ap suc there.count;
      few = omega (arith, there.few);
      each = more_read width limit columns row fields others first rest here there;
    })))

-- and back
pub rows_are_read : {Row : Type 0} (width limit : ℕ) (columns : Columns Row) (records : List (List (List ℕ))) (row : ℕ) (rows : List Row)
    → AreRead width limit columns row records rows → rows_from width limit columns row records ≡ Ok rows
unfolding rows_from
rows_are_read width limit columns [] row [] r = refl
rows_are_read width limit columns [] row (first ∷ rows) r = absurd (omega (arith, r.count))
rows_are_read width limit columns (fields ∷ others) row [] r = absurd (omega (arith, r.count))
rows_are_read width limit columns (fields ∷ others) row (first ∷ rows) r =
    let below : ltb limit row ≡ false = le-ltb _ _ (omega (arith, r.few)) in
    let number : 0 + row ≡ row = omega arith in
    let here : row_of width columns row fields ≡ Ok first = rw number at (r.each 0 first refl) in
    let there : AreRead width limit columns (row + 1) others rows = record {
      count = omega (arith, r.count);
      few = omega (arith, r.few);
      each = λ k x e. subst (λ (n : ℕ). row_of width columns n (get_or others k []) ≡ Ok x) (shifted k row) (r.each (suc k) x e);
    } in
    let read = rows_are_read width limit columns others (row + 1) rows there in
    rw (below, here, read) refl
  where
    shifted : (k row : ℕ) → suc k + row ≡ k + (row + 1)
    shifted k row = omega arith

-- ---- the first wrong thing

abbrev IsRightAt : {Row : Type 0} → ℕ → Columns Row → ℕ → List (List (List ℕ)) → ℕ → Type 0
IsRightAt width columns row records k = IsOk (row_of width columns (k + row) (get_or records k []))

-- counted from a row on, this place is the first that is wrong
pub record IsWrongAt {Row : Type 0} (width limit : ℕ) (columns : Columns Row) (row : ℕ) (records : List (List (List ℕ))) (e : TableRefusal) (k : ℕ) : Type 0 where
  pub few : k + row ≤ limit
  pub there : k < length records
  pub before : (j : ℕ) → j < k → IsRightAt width columns row records j
  pub wrong : row_of width columns (k + row) (get_or records k []) ≡ Err e

-- counted from a row on, the rows are right up to the limit, and one more is there at this place
pub record IsLongAt {Row : Type 0} (width limit : ℕ) (columns : Columns Row) (row : ℕ) (records : List (List (List ℕ))) (k : ℕ) : Type 0 where
  pub reaches : k + row ≡ limit + 1
  pub there : k < length records
  pub before : (j : ℕ) → j < k → IsRightAt width columns row records j

split : {A B : Type 0} (read : Result A TableRefusal) (next : A → Result B TableRefusal) (e : TableRefusal) → (read >>= next) ≡ Err e → (read ≡ Err e) ⊎ ((a : A) × (read ≡ Ok a) × (next a ≡ Err e))
split (Ok a) next e h = inr (a, refl, h)
split (Err d) next e h = inl cc

by_limit : {A : Type 0} (b : Bool) (read : Result A TableRefusal) (d e : TableRefusal) → cond b (Err d) read ≡ Err e → ((b ≡ true) × (e ≡ d)) ⊎ ((b ≡ false) × (read ≡ Err e))
by_limit true read d e h = inl (refl, cc)
by_limit false read d e h = inr (refl, h)

right_here : {Row : Type 0} (read : Result Row TableRefusal) (a : Row) → read ≡ Ok a → IsOk read
right_here read a e = rw e refl

before_more : {Row : Type 0} (width : ℕ) (columns : Columns Row) (row : ℕ) (fields : List (List ℕ)) (others : List (List (List ℕ))) (a : Row) (k : ℕ) → row_of width columns row fields ≡ Ok a
    → ((j : ℕ) → j < k → IsRightAt width columns (row + 1) others j) → (j : ℕ) → j < suc k → IsRightAt width columns row (fields ∷ others) j
before_more width columns row fields others a k here before zero lt =
    let number : 0 + row ≡ row = omega arith in
    rw number (right_here (row_of width columns row fields) a here)
before_more width columns row fields others a k here before (suc j) lt =
    let number : suc j + row ≡ j + (row + 1) = omega arith in
    rw number (before j (omega arith))

abbrev pub IsWrongFrom : {Row : Type 0} → ℕ → ℕ → Columns Row → ℕ → List (List (List ℕ)) → TableRefusal → Type 0
IsWrongFrom width limit columns row records e = ((k : ℕ) × IsWrongAt width limit columns row records e k) ⊎ ((k : ℕ) × IsLongAt width limit columns row records k × (e ≡ TooManyRows))

wrong_later : {Row : Type 0} (width limit : ℕ) (columns : Columns Row) (row : ℕ) (fields : List (List ℕ)) (others : List (List (List ℕ))) (a : Row) (e : TableRefusal) → row_of width columns row fields ≡ Ok a
    → IsWrongFrom width limit columns (row + 1) others e → IsWrongFrom width limit columns row (fields ∷ others) e
wrong_later width limit columns row fields others a e here (inl w) =
    let number : suc w.0 + row ≡ w.0 + (row + 1) = omega arith in
    inl (
      suc w.0,
      record {
        few = omega (arith, w.1.few);
        there = omega (arith, w.1.there);
        before = before_more width columns row fields others a w.0 here w.1.before;
        wrong = rw number w.1.wrong;
      },
    )
wrong_later width limit columns row fields others a e here (inr w) =
    inr (
      suc w.0,
      record {
        reaches = omega (arith, w.1.reaches);
        there = omega (arith, w.1.there);
        before = before_more width columns row fields others a w.0 here w.1.before;
      },
      w.2,
    )

pub wrong_from : {Row : Type 0} (width limit : ℕ) (columns : Columns Row) (records : List (List (List ℕ))) (row : ℕ) (e : TableRefusal) → row ≤ limit + 1
    → rows_from width limit columns row records ≡ Err e → IsWrongFrom width limit columns row records e
unfolding rows_from
wrong_from width limit columns [] row e le h = absurd cc
wrong_from width limit columns (fields ∷ others) row e le h =
    elim (by_limit (ltb limit row) _ _ e h) [
      | inl many ↦
          let above : limit < row = ltb-true limit row many.0 in
          inr (0, record { reaches = omega arith; there = omega arith; before = λ j lt. absurd (omega arith) }, many.1)
      | inr more ↦
          let below : row ≤ limit = ltb-false limit row more.0 in
          elim (split (row_of width columns row fields) _ e more.1) [
            | inl here ↦
                let number : 0 + row ≡ row = omega arith in
                inl (0, record { few = omega arith; there = omega arith; before = λ j lt. absurd (omega arith); wrong = rw number here })
            | inr went ↦ elim (split (rows_from width limit columns (row + 1) others) _ e went.2) [
              | inl later ↦ wrong_later width limit columns row fields others went.0 e went.1 (wrong_from width limit columns others (row + 1) e (omega arith) later)
              | inr never ↦ absurd cc
            ]
          ]
    ]

-- and back

is_right : {A : Type 0} (read : Result A TableRefusal) → IsOk read → (a : A) × (read ≡ Ok a)
is_right (Ok a) right = (a, refl)
is_right (Err d) right = absurd cc

right_first : {Row : Type 0} (width : ℕ) (columns : Columns Row) (row : ℕ) (fields : List (List ℕ)) (others : List (List (List ℕ))) → IsRightAt width columns row (fields ∷ others) 0 → (a : Row) × (row_of width columns row fields ≡ Ok a)
right_first width columns row fields others right =
    let number : 0 + row ≡ row = omega arith in
    is_right (row_of width columns row fields) (subst (λ (n : ℕ). IsOk (row_of width columns n fields)) number right)

shifted : (k row : ℕ) → suc k + row ≡ k + (row + 1)
shifted k row = omega arith

right_later : {Row : Type 0} (width : ℕ) (columns : Columns Row) (row : ℕ) (fields : List (List ℕ)) (others : List (List (List ℕ))) (k : ℕ)
    → ((j : ℕ) → j < suc k → IsRightAt width columns row (fields ∷ others) j) → (j : ℕ) → j < k → IsRightAt width columns (row + 1) others j
right_later width columns row fields others k before j lt =
    subst (λ (n : ℕ). IsOk (row_of width columns n (get_or others j []))) (shifted j row) (before (suc j) (omega arith))

pub from_wrong : {Row : Type 0} (width limit : ℕ) (columns : Columns Row) (records : List (List (List ℕ))) (row : ℕ) (e : TableRefusal)
    → IsWrongFrom width limit columns row records e → rows_from width limit columns row records ≡ Err e
unfolding rows_from
from_wrong width limit columns [] row e (inl w) = absurd (omega (arith, w.1.there))
from_wrong width limit columns [] row e (inr w) = absurd (omega (arith, w.1.there))
from_wrong width limit columns (fields ∷ others) row e (inl (zero, w)) =
    let below : ltb limit row ≡ false = le-ltb _ _ (omega (arith, w.few)) in
    let number : 0 + row ≡ row = omega arith in
    let here : row_of width columns row fields ≡ Err e = rw number at w.wrong in
    rw (below, here) refl
from_wrong width limit columns (fields ∷ others) row e (inl (suc k, w)) =
    let below : ltb limit row ≡ false = le-ltb _ _ (omega (arith, w.few)) in
    let here = right_first width columns row fields others (w.before 0 (omega arith)) in
    let later : IsWrongFrom width limit columns (row + 1) others e = inl (
      k,
      record {
        few = omega (arith, w.few);
        there = omega (arith, w.there);
        before = right_later width columns row fields others k w.before;
        wrong = subst (λ (n : ℕ). row_of width columns n (get_or others k []) ≡ Err e) (shifted k row) w.wrong;
      },
    ) in
    rw (below, here.1, from_wrong width limit columns others (row + 1) e later) refl
from_wrong width limit columns (fields ∷ others) row e (inr (zero, w, many)) =
    let above : ltb limit row ≡ true = lt-ltb _ _ (omega (arith, w.reaches)) in
    rw (above, many) refl
from_wrong width limit columns (fields ∷ others) row e (inr (suc k, w, many)) =
    let below : ltb limit row ≡ false = le-ltb _ _ (omega (arith, w.reaches)) in
    let here = right_first width columns row fields others (w.before 0 (omega arith)) in
    let later : IsWrongFrom width limit columns (row + 1) others e = inr (
      k,
      record {
        reaches = omega (arith, w.reaches);
        there = omega (arith, w.there);
        before = right_later width columns row fields others k w.before;
      },
      many,
    ) in
    rw (below, here.1, from_wrong width limit columns others (row + 1) e later) refl

-- ---- the whole table

by_header : {A : Type 0} (b : Bool) (read : Result A TableRefusal) (d : TableRefusal) (r : Result A TableRefusal) → cond b read (Err d) ≡ r → ((b ≡ true) × (read ≡ r)) ⊎ ((b ≡ false) × (Err d ≡ r))
by_header true read d r h = inl (refl, h)
by_header false read d r h = inr (refl, h)

next_row : {Row : Type 0} (width : ℕ) (columns : Columns Row) (first : List (List ℕ)) (others : List (List (List ℕ))) (k : ℕ) → row_of width columns (k + 1) (get_or others k []) ≡ row_at width columns (first ∷ others) (k + 1)
next_row width columns first others k = rw (add-one k) refl

-- a table that was read is a table of its rows
pub is_table : {Row : Type 0} (words : List (List ℕ)) (fewest limit : ℕ) (columns : Columns Row) (records : List (List (List ℕ))) (rows : List Row) → rows_under words fewest limit columns records ≡ Ok rows → IsTable words fewest limit columns records rows
unfolding rows_under
is_table words fewest limit columns [] rows e = absurd cc
is_table words fewest limit columns (first ∷ others) rows e =
    elim (by_header (is_header words fewest first) _ _ (Ok rows) e) [
      | inl read ↦
          let width : ℕ = length first in
          let r = read_rows_are width limit columns others 1 rows (omega arith) read.1 in (
            width,
            record {
              first = has_header words fewest first others read.0;
              count = omega (arith, r.count);
              few = omega (arith, r.few);
              each = λ k row at. sym (next_row width columns first others k) ∙ r.each k row at;
            },
          )
      | inr none ↦ absurd cc
    ]

-- and a table is read to its rows
pub table_is : {Row : Type 0} (words : List (List ℕ)) (fewest limit : ℕ) (columns : Columns Row) (records : List (List (List ℕ))) (rows : List Row) → IsTable words fewest limit columns records rows → rows_under words fewest limit columns records ≡ Ok rows
unfolding rows_under
table_is words fewest limit columns [] rows (width, t) = absurd (omega (arith, t.count))
table_is words fewest limit columns (first ∷ others) rows (width, t) =
    let right = header_is words fewest width first others t.first in
    let read : AreRead width limit columns 1 others rows = record {
      count = omega (arith, t.count);
      few = omega (arith, t.few);
      each = λ k row at. next_row width columns first others k ∙ t.each k row at;
    } in
    rw (right.is, right.wide) (rows_are_read width limit columns others 1 rows read)

before_all : {Row : Type 0} (width : ℕ) (columns : Columns Row) (first : List (List ℕ)) (others : List (List (List ℕ))) (n : ℕ) → ((j : ℕ) → j < n → IsRightAt width columns 1 others j) → AreRightBefore width columns (first ∷ others) (n + 1)
before_all width columns first others n before zero one lt = absurd (omega arith)
before_all width columns first others n before (suc j) one lt = subst (λ (i : ℕ). IsOk (row_of width columns i (get_or others j []))) (add-one j) (before j (omega arith))

-- what is wrong from the first row on is the first wrong thing under the header
wrong_under : {Row : Type 0} (width limit : ℕ) (columns : Columns Row) (first : List (List ℕ)) (others : List (List (List ℕ))) (e : TableRefusal) → IsWrongFrom width limit columns 1 others e → IsFirstWrongUnder width limit columns (first ∷ others) e
wrong_under width limit columns first others e (inl w) =
    inl (
      w.0 + 1,
      record {
        one = omega arith;
        few = w.1.few;
        there = omega (arith, w.1.there);
        before = before_all width columns first others w.0 w.1.before;
        wrong = sym (next_row width columns first others w.0) ∙ w.1.wrong;
      },
    )
wrong_under width limit columns first others e (inr w) =
    inr (
      record {
        before = subst (λ (n : ℕ). AreRightBefore width columns (first ∷ others) n) w.1.reaches (before_all width columns first others w.0 w.1.before);
        more = omega (arith, w.1.reaches, w.1.there);
      },
      w.2,
    )

-- a refusal is the first wrong thing
pub is_first_wrong : {Row : Type 0} (words : List (List ℕ)) (fewest limit : ℕ) (columns : Columns Row) (records : List (List (List ℕ))) (e : TableRefusal) → rows_under words fewest limit columns records ≡ Err e → IsFirstWrong words fewest limit columns records e
unfolding rows_under
is_first_wrong words fewest limit columns [] e h = inl (λ width has. no_header words fewest width has, cc)
is_first_wrong words fewest limit columns (first ∷ others) e h =
    elim (by_header (is_header words fewest first) _ _ (Err e) h) [
      | inl read ↦
          let width : ℕ = length first in
          inr (width, has_header words fewest first others read.0, wrong_under width limit columns first others e (wrong_from width limit columns others 1 e (omega arith) read.1))
      | inr none ↦ inl (λ width has. absurd (false≢true (sym none.0 ∙ (header_is words fewest width first others has).is)), cc)
    ]

right_under : {Row : Type 0} (width : ℕ) (columns : Columns Row) (first : List (List ℕ)) (others : List (List (List ℕ))) (n : ℕ) → AreRightBefore width columns (first ∷ others) (n + 1) → (j : ℕ) → j < n → IsRightAt width columns 1 others j
right_under width columns first others n before j lt =
    subst (λ (i : ℕ). IsOk (row_of width columns i (get_or others j []))) (sym (add-one j)) (before (suc j) (omega arith) (omega arith))

under_wrong : {Row : Type 0} (width limit : ℕ) (columns : Columns Row) (first : List (List ℕ)) (others : List (List (List ℕ))) (e : TableRefusal) → IsFirstWrongUnder width limit columns (first ∷ others) e → IsWrongFrom width limit columns 1 others e
under_wrong width limit columns first others e (inl (zero, w)) = absurd (omega (arith, w.one))
under_wrong width limit columns first others e (inl (suc k, w)) =
    inl (
      k,
      record {
        few = omega (arith, w.few);
        there = omega (arith, w.there);
        before = right_under width columns first others k (subst (λ (n : ℕ). AreRightBefore width columns (first ∷ others) n) (sym (add-one k)) w.before);
        wrong = subst (λ (i : ℕ). row_of width columns i (get_or others k []) ≡ Err e) (sym (add-one k)) w.wrong;
      },
    )
under_wrong width limit columns first others e (inr (many, is)) =
    inr (
      limit,
      record {
        reaches = refl;
        there = omega (arith, many.more);
        before = right_under width columns first others limit many.before;
      },
      is,
    )

-- and the first wrong thing is a refusal
pub first_wrong_is : {Row : Type 0} (words : List (List ℕ)) (fewest limit : ℕ) (columns : Columns Row) (records : List (List (List ℕ))) (e : TableRefusal) → IsFirstWrong words fewest limit columns records e → rows_under words fewest limit columns records ≡ Err e
unfolding rows_under
first_wrong_is words fewest limit columns [] e (inl none) = rw none.1 refl
first_wrong_is words fewest limit columns [] e (inr (width, has, under)) = absurd (no_header words fewest width has)
first_wrong_is words fewest limit columns (first ∷ others) e (inl none) =
    let other : is_header words fewest first ≡ false = refuted _ (λ h. none.0 (length first) (has_header words fewest first others h)) in
    rw (other, none.1) refl
first_wrong_is words fewest limit columns (first ∷ others) e (inr (width, has, under)) =
    let right = header_is words fewest width first others has in
    rw (right.is, right.wide) (from_wrong width limit columns others 1 e (under_wrong width limit columns first others e under))
