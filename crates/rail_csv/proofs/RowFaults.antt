-- A row is refused for its first wrong thing, and by its columns for what the leftmost that refuses its field says.
use Rattle.std.proofs.Common.{◌≡◌, ◌↔◌, ◌<◌, ℕ, zero, suc, Bool, true, false, cond, eqb, List, [], ◌∷◌, length, codes}
use Rattle.std.proofs.Common.{slice_get, Option, Some, None, Result, Ok, Err, All, Any, IsUtf8, refl, ap, ◌∙◌, arith}
use Rattle.std.proofs.Common.{inl, inr, ◌⊎◌, ◌+◌, ◌&&◌, leb, subst, sym}
use Rattle.std.specs.List.{list_all}
use Rattle.std.specs.Result.{result_err}
use Rattle.std.specs.Str.{is_utf8, bytes_eq}
use Rattle.std.proofs.lemmas.Bool.{eqb-true, eqb-false, eq-eqb, ne_eqb, and_cases, both_ways, false_from_ne_true}
use Rattle.std.proofs.lemmas.List.Elements.{All-weaker}
use Rattle.std.proofs.lemmas.List.Folds.{list_all_at}
use Rattle.std.proofs.lemmas.List.Sums.{AllPass-from_list_all, list_all-from_AllPass}
use Rattle.std.proofs.lemmas.Str.{IsUtf8-from_is_utf8, is_utf8-from_IsUtf8}
use Rattle.rail_base.specs.Answers.{◌>>=◌}
use Rattle.rail_base.specs.Names.{is_name}
use Rattle.rail_base.specs.declared.limits.TheConstants.{MAX_CARRIAGES, MAX_SEATS, MAX_FIRST_SEATS, MAX_METRES}
use Rattle.rail_base.specs.declared.limits.TheConstants.{MAX_PLATFORM, MAX_REALLOCATION, MAX_STOCK, MAX_KM}
use Rattle.rail_base.specs.declared.limits.TheConstants.{MAX_DEMAND, MAX_FIRST_DEMAND, MAX_WEIGHT, MAX_COMPOSITION_UNITS}
use Rattle.rail_csv.specs.declared.refusal.TableRefusal.{TableRefusal}
use Rattle.rail_csv.specs.Fields.{is_number, number_of, is_time, pieces_of, numbers_of, is_unit}
use Rattle.rail_csv.specs.Columns.{field, field_or, number_column, time_column, name_column, optional_name_column}
use Rattle.rail_csv.specs.Columns.{kind_column, answer_column, end_column, units_column}
use Rattle.rail_csv.specs.Tables.{Columns, row_of, type_columns, station_columns, stock_columns, trip_columns}
use Rattle.rail_csv.specs.Tables.{link_columns, weight_columns, plan_columns}
use Rattle.rail_csv.specs.RowFaults.{IsWrongRow, IsLeftmost, field_named, RefuseLeftmost, type_faults, station_faults, stock_faults}
use Rattle.rail_csv.specs.RowFaults.{trip_faults, link_faults, weight_faults, plan_faults, EachRefusesLeftmost}

-- ---- fields that are UTF-8

pub all_text : (fields : List (List ℕ)) → list_all is_utf8 fields ≡ true → All (λ text. IsUtf8 text) fields
all_text fields e = All-weaker (λ text. is_utf8 text ≡ true) (λ text. IsUtf8 text) IsUtf8-from_is_utf8 fields (AllPass-from_list_all is_utf8 fields e)

pub text_all : (fields : List (List ℕ)) → All (λ text. IsUtf8 text) fields → list_all is_utf8 fields ≡ true
text_all fields all = list_all-from_AllPass is_utf8 fields (All-weaker (λ text. IsUtf8 text) (λ text. is_utf8 text ≡ true) is_utf8-from_IsUtf8 fields all)

some_other : (fields : List (List ℕ)) → list_all is_utf8 fields ≡ false → Any (λ text. ¬ (IsUtf8 text)) fields
some_other [] e = absurd cc
some_other (text ∷ texts) e = elim (and_cases (is_utf8 text) (list_all is_utf8 texts) e) [
  | inl here ↦ (0, text, omega arith, refl, λ is. both_ways (is_utf8 text) here (is_utf8-from_IsUtf8 text is))
  | inr later ↦
      let (k, found, below, at, other) = some_other texts later in
      (suc k, found, omega arith, at, other)
]

other_some : (fields : List (List ℕ)) → Any (λ text. ¬ (IsUtf8 text)) fields → list_all is_utf8 fields ≡ false
other_some fields (k, found, below, at, other) =
    list_all_at is_utf8 fields k found below (ap is_utf8 at ∙ false_from_ne_true (is_utf8 found) (λ e. other (IsUtf8-from_is_utf8 found e)))

-- ---- a row

-- one of two refuses
chosen : {A : Type 0} (b : Bool) (read : Result A TableRefusal) (d e : TableRefusal) → cond b read (Err d) ≡ Err e → ((b ≡ true) × (read ≡ Err e)) ⊎ ((b ≡ false) × (e ≡ d))
chosen true read d e h = inl (refl, h)
chosen false read d e h = inr (refl, cc)

-- a refusal is the first wrong thing of the row
pub is_wrong_row : {Row : Type 0} (width : ℕ) (columns : Columns Row) (row : ℕ) (fields : List (List ℕ)) (e : TableRefusal) → row_of width columns row fields ≡ Err e → IsWrongRow width columns row fields e
unfolding row_of
is_wrong_row width columns row fields e h =
    elim (chosen (eqb (length fields) width) _ _ e h) [
      | inl wide ↦
          let same : length fields ≡ width = eqb-true (length fields) width wide.0 in
          elim (chosen (list_all is_utf8 fields) _ _ e wide.1) [
            | inl text ↦ inr (inr (same, all_text fields text.0, text.1))
            | inr other ↦ inr (inl (same, some_other fields other.0, other.1))
          ]
      | inr other ↦ inl (eqb-false (length fields) width other.0, other.1)
    ]

-- and back
pub wrong_row_is : {Row : Type 0} (width : ℕ) (columns : Columns Row) (row : ℕ) (fields : List (List ℕ)) (e : TableRefusal) → IsWrongRow width columns row fields e → row_of width columns row fields ≡ Err e
unfolding row_of
wrong_row_is width columns row fields e (inl (other, is)) =
    let differs : eqb (length fields) width ≡ false = ne_eqb (length fields) width other in
    rw (differs, is) refl
wrong_row_is width columns row fields e (inr (inl (same, some, is))) =
    let wide : eqb (length fields) width ≡ true = eq-eqb (length fields) width same in
    let not_all : list_all is_utf8 fields ≡ false = other_some fields some in
    rw (wide, not_all, is) refl
wrong_row_is width columns row fields e (inr (inr (same, all, refused))) =
    let wide : eqb (length fields) width ≡ true = eq-eqb (length fields) width same in
    let text : list_all is_utf8 fields ≡ true = text_all fields all in
    rw (wide, text) refused

-- ---- a column in front of others

-- The refusal is that of the leftmost of the columns from this one on, and it names the row and the column.
record LeftmostFrom (row start : ℕ) (faults : List (Option TableRefusal)) (e : TableRefusal) : Type 0 where
  column : ℕ
  at : slice_get faults column ≡ Some (Some e)
  before : (k : ℕ) → k < column → slice_get faults k ≡ Some None
  named : field_named e ≡ Some (row, start + column)

-- what a column refuses names the row and the column
abbrev Names : {A : Type 0} → ℕ → ℕ → Result A TableRefusal → Type 0
Names row column read = (d : TableRefusal) → read ≡ Err d → field_named d ≡ Some (row, column)

place_is : (row : ℕ) (some : Option (ℕ × ℕ)) (j k : ℕ) → j ≡ k → some ≡ Some (row, j) → some ≡ Some (row, k)
place_is row some j k same is = rw (sym same) is

-- one that takes its field: the leftmost is behind it
past_taken : (row start : ℕ) (faults : List (Option TableRefusal)) (e : TableRefusal) → LeftmostFrom row (suc start) faults e → LeftmostFrom row start (None ∷ faults) e
past_taken row start faults e left = record {
  column = suc left.column;
  at = left.at;
  before = taken_before left.column left.before;
  named = place_is row (field_named e) (suc start + left.column) (start + suc left.column) (omega arith) left.named;
}
  where
    taken_before : (column : ℕ) → ((k : ℕ) → k < column → slice_get faults k ≡ Some None) → (k : ℕ) → k < suc column → slice_get (None ∷ faults) k ≡ Some None
    taken_before column before zero lt = refl
    taken_before column before (suc k) lt = before k (omega arith)

behind_taken : (row start : ℕ) (faults : List (Option TableRefusal)) (e : TableRefusal) (column : ℕ)
    → slice_get (None ∷ faults) column ≡ Some (Some e) → ((k : ℕ) → k < column → slice_get (None ∷ faults) k ≡ Some None)
    → field_named e ≡ Some (row, start + column) → LeftmostFrom row (suc start) faults e
behind_taken row start faults e zero at before named = absurd cc
behind_taken row start faults e (suc column) at before named = record {
  column = column;
  at = at;
  before = λ k lt. before (suc k) (omega arith);
  named = place_is row (field_named e) (start + suc column) (suc start + column) (omega arith) named;
}

-- one that refuses its field: it is the leftmost
is_leftmost : (row start : ℕ) (faults : List (Option TableRefusal)) (d e : TableRefusal) → field_named d ≡ Some (row, start) → d ≡ e → LeftmostFrom row start (Some d ∷ faults) e
is_leftmost row start faults d e named same = record {
  column = 0;
  at = ap (λ (w : TableRefusal). Some (Some w)) same;
  before = λ k lt. absurd (omega arith);
  named = place_is row (field_named e) start (start + 0) (omega arith) (rw (sym same) named);
}

leftmost_is : (faults : List (Option TableRefusal)) (d e : TableRefusal) (column : ℕ)
    → slice_get (Some d ∷ faults) column ≡ Some (Some e) → ((k : ℕ) → k < column → slice_get (Some d ∷ faults) k ≡ Some None) → d ≡ e
leftmost_is faults d e zero at before = cc
leftmost_is faults d e (suc column) at before =
    let taken : ◌≡◌ {A = Option (Option TableRefusal)} (Some (Some d)) (Some None) = before 0 (omega arith) in
    absurd cc

-- one of either kind, where what the others refuse doesn't depend on the value that it gives
in_front : {A B : Type 0} (row start : ℕ) (read : Result A TableRefusal) (next : A → Result B TableRefusal) (faults : List (Option TableRefusal)) (e : TableRefusal)
    → Names row start read → ((a : A) → (next a ≡ Err e) ↔ LeftmostFrom row (suc start) faults e)
    → ((read >>= next) ≡ Err e) ↔ LeftmostFrom row start (result_err read ∷ faults) e
in_front row start (Ok a) next faults e names others = (
  λ refused. past_taken row start faults e ((others a).0 refused),
  λ left. (others a).1 (behind_taken row start faults e left.column left.at left.before left.named),
)
in_front row start (Err d) next faults e names others = (
  λ refused. is_leftmost row start faults d e (names d refl) cc,
  λ left. ap (λ (w : TableRefusal). Err w) (leftmost_is faults d e left.column left.at left.before),
)

-- no column is left
nothing : (column : ℕ) (e : TableRefusal) → slice_get [] column ≡ Some (Some e) → ⊥
nothing column e at = cc

none_left : {Row : Type 0} (row start : ℕ) (x : Row) (e : TableRefusal) → (◌≡◌ {A = Result Row TableRefusal} (Ok x) (Err e)) ↔ LeftmostFrom row start [] e
none_left row start x e = (λ refused. absurd cc, λ left. absurd (nothing left.column e left.at))

-- all of the columns
from_first : {Row : Type 0} (read : Result Row TableRefusal) (row : ℕ) (faults : List (Option TableRefusal)) (e : TableRefusal)
    → (read ≡ Err e) ↔ LeftmostFrom row 0 faults e → (read ≡ Err e) ↔ IsLeftmost row faults e
from_first read row faults e both = (
  λ refused. let left = both.0 refused in record {
    column = left.column;
    at = left.at;
    before = left.before;
    named = place_is row (field_named e) (0 + left.column) left.column (omega arith) left.named;
  },
  λ left. both.1 (record {
    column = left.column;
    at = left.at;
    before = left.before;
    named = place_is row (field_named e) left.column (0 + left.column) (omega arith) left.named;
  }),
)

-- ---- what each kind of column names

-- a test, and what comes where it fails
named_else : {A : Type 0} (row column : ℕ) (b : Bool) (read other : Result A TableRefusal) → Names row column read → Names row column other → Names row column (cond b read other)
named_else row column true read other names others = names
named_else row column false read other names others = others

takes : {A : Type 0} (row column : ℕ) (x : A) → Names {A = A} row column (Ok x)
takes row column x d is = absurd cc

refuses : {A : Type 0} (row column : ℕ) (e : TableRefusal) → field_named e ≡ Some (row, column) → Names {A = A} row column (Err e)
refuses {A = A} row column e named d is = subst (λ w. field_named w ≡ Some (row, column)) (same_refusal e d is) named
  where
    same_refusal : (e d : TableRefusal) → ◌≡◌ {A = Result A TableRefusal} (Err e) (Err d) → e ≡ d
    same_refusal e d is = cc

number_names : (low high row column : ℕ) (text : List ℕ) → Names row column (number_column low high row column text)
unfolding number_column
number_names low high row column text =
    named_else row column (is_number text) _ _
    (named_else row column (leb low (number_of text) && leb (number_of text) high) _ _ (takes row column _) (refuses row column _ refl))
    (refuses row column _ refl)

time_names : (row column : ℕ) (text : List ℕ) → Names row column (time_column row column text)
unfolding time_column
time_names row column text = named_else row column (is_time text) _ _ (takes row column _) (refuses row column _ refl)

name_names : (row column : ℕ) (text : List ℕ) → Names row column (name_column row column text)
unfolding name_column
name_names row column text = named_else row column (is_name text) _ _ (takes row column _) (refuses row column _ refl)

optional_name_names : (row column : ℕ) (text : List ℕ) → Names row column (optional_name_column row column text)
unfolding optional_name_column
optional_name_names row column [] = takes row column _
optional_name_names row column (byte ∷ text) = then_some (name_column row column (byte ∷ text)) (name_names row column (byte ∷ text))
  where
    then_some : (read : Result (List ℕ) TableRefusal) → Names row column read → Names row column (read >>= (λ name. Ok (Some name)))
    then_some (Ok name) names = takes row column _
    then_some (Err e) names = refuses row column e (names e refl)

kind_names : (row column : ℕ) (text : List ℕ) → Names row column (kind_column row column text)
unfolding kind_column
kind_names row column text =
    named_else row column (bytes_eq text (codes "turn")) _ _ (takes row column _)
    (named_else row column (bytes_eq text (codes "join")) _ _ (takes row column _)
    (named_else row column (bytes_eq text (codes "split")) _ _ (takes row column _) (refuses row column _ refl)))

answer_names : (row column : ℕ) (text : List ℕ) → Names row column (answer_column row column text)
unfolding answer_column
answer_names row column text =
    named_else row column (bytes_eq text (codes "yes")) _ _ (takes row column _)
    (named_else row column (bytes_eq text (codes "no")) _ _ (takes row column _) (refuses row column _ refl))

end_names : (row column : ℕ) (text : List ℕ) → Names row column (end_column row column text)
unfolding end_column
end_names row column text =
    named_else row column (bytes_eq text (codes "none")) _ _ (takes row column _)
    (named_else row column (bytes_eq text (codes "front")) _ _ (takes row column _)
    (named_else row column (bytes_eq text (codes "rear")) _ _ (takes row column _) (refuses row column _ refl)))

units_names : (row column : ℕ) (text : List ℕ) → Names row column (units_column row column text)
unfolding units_column
units_names row column text =
    named_else row column (list_all is_number (pieces_of text)) _ _
    (named_else row column (leb (length (numbers_of text)) MAX_COMPOSITION_UNITS && list_all is_unit (numbers_of text)) _ _ (takes row column _) (refuses row column _ refl))
    (refuses row column _ refl)

-- ---- the columns of the seven tables

types_refuse : RefuseLeftmost type_columns type_faults
unfolding type_columns
types_refuse row fields e =
    from_first (type_columns row fields) row (type_faults row fields) e (
    in_front row 0 (name_column row 0 (field fields 0)) _ _ e (name_names row 0 (field fields 0)) (λ name.
    in_front row 1 (number_column 1 MAX_CARRIAGES row 1 (field fields 1)) _ _ e (number_names 1 MAX_CARRIAGES row 1 (field fields 1)) (λ carriages.
    in_front row 2 (number_column 1 MAX_SEATS row 2 (field fields 2)) _ _ e (number_names 1 MAX_SEATS row 2 (field fields 2)) (λ seats.
    in_front row 3 (number_column 1 MAX_METRES row 3 (field fields 3)) _ _ e (number_names 1 MAX_METRES row 3 (field fields 3)) (λ metres.
    in_front row 4 (name_column row 4 (field fields 4)) _ _ e (name_names row 4 (field fields 4)) (λ family.
    in_front row 5 (number_column 0 MAX_FIRST_SEATS row 5 (field_or (codes "0") fields 5)) _ _ e (number_names 0 MAX_FIRST_SEATS row 5 (field_or (codes "0") fields 5)) (λ first. none_left row 6 _ e)))))))

stations_refuse : RefuseLeftmost station_columns station_faults
unfolding station_columns
stations_refuse row fields e =
    from_first (station_columns row fields) row (station_faults row fields) e (
    in_front row 0 (name_column row 0 (field fields 0)) _ _ e (name_names row 0 (field fields 0)) (λ name.
    in_front row 1 (number_column 1 MAX_PLATFORM row 1 (field fields 1)) _ _ e (number_names 1 MAX_PLATFORM row 1 (field fields 1)) (λ platform.
    in_front row 2 (number_column 0 MAX_REALLOCATION row 2 (field fields 2)) _ _ e (number_names 0 MAX_REALLOCATION row 2 (field fields 2)) (λ reallocation. none_left row 3 _ e))))

stock_refuses : RefuseLeftmost stock_columns stock_faults
unfolding stock_columns
stock_refuses row fields e =
    from_first (stock_columns row fields) row (stock_faults row fields) e (
    in_front row 0 (name_column row 0 (field fields 0)) _ _ e (name_names row 0 (field fields 0)) (λ station.
    in_front row 1 (name_column row 1 (field fields 1)) _ _ e (name_names row 1 (field fields 1)) (λ unit_type.
    in_front row 2 (number_column 0 MAX_STOCK row 2 (field fields 2)) _ _ e (number_names 0 MAX_STOCK row 2 (field fields 2)) (λ start.
    in_front row 3 (number_column 0 MAX_STOCK row 3 (field fields 3)) _ _ e (number_names 0 MAX_STOCK row 3 (field fields 3)) (λ end. none_left row 4 _ e)))))

trips_refuse : RefuseLeftmost trip_columns trip_faults
unfolding trip_columns
trips_refuse row fields e =
    from_first (trip_columns row fields) row (trip_faults row fields) e (
    in_front row 0 (name_column row 0 (field fields 0)) _ _ e (name_names row 0 (field fields 0)) (λ name.
    in_front row 1 (name_column row 1 (field fields 1)) _ _ e (name_names row 1 (field fields 1)) (λ from.
    in_front row 2 (time_column row 2 (field fields 2)) _ _ e (time_names row 2 (field fields 2)) (λ departure.
    in_front row 3 (name_column row 3 (field fields 3)) _ _ e (name_names row 3 (field fields 3)) (λ to.
    in_front row 4 (time_column row 4 (field fields 4)) _ _ e (time_names row 4 (field fields 4)) (λ arrival.
    in_front row 5 (number_column 1 MAX_KM row 5 (field fields 5)) _ _ e (number_names 1 MAX_KM row 5 (field fields 5)) (λ km.
    in_front row 6 (number_column 0 MAX_DEMAND row 6 (field fields 6)) _ _ e (number_names 0 MAX_DEMAND row 6 (field fields 6)) (λ demand.
    in_front row 7 (number_column 0 MAX_FIRST_DEMAND row 7 (field_or (codes "0") fields 7)) _ _ e (number_names 0 MAX_FIRST_DEMAND row 7 (field_or (codes "0") fields 7)) (λ first. none_left row 8 _ e)))))))))

links_refuse : RefuseLeftmost link_columns link_faults
unfolding link_columns
links_refuse row fields e =
    from_first (link_columns row fields) row (link_faults row fields) e (
    in_front row 0 (kind_column row 0 (field fields 0)) _ _ e (kind_names row 0 (field fields 0)) (λ kind.
    in_front row 1 (name_column row 1 (field fields 1)) _ _ e (name_names row 1 (field fields 1)) (λ arriving.
    in_front row 2 (optional_name_column row 2 (field fields 2)) _ _ e (optional_name_names row 2 (field fields 2)) (λ arriving2.
    in_front row 3 (name_column row 3 (field fields 3)) _ _ e (name_names row 3 (field fields 3)) (λ departing.
    in_front row 4 (optional_name_column row 4 (field fields 4)) _ _ e (optional_name_names row 4 (field fields 4)) (λ departing2.
    in_front row 5 (answer_column row 5 (field fields 5)) _ _ e (answer_names row 5 (field fields 5)) (λ reverse.
    in_front row 6 (end_column row 6 (field fields 6)) _ _ e (end_names row 6 (field fields 6)) (λ uncouple.
    in_front row 7 (end_column row 7 (field fields 7)) _ _ e (end_names row 7 (field fields 7)) (λ couple.
    in_front row 8 (answer_column row 8 (field_or (codes "no") fields 8)) _ _ e (answer_names row 8 (field_or (codes "no") fields 8)) (λ exchange. none_left row 9 _ e))))))))))

weights_refuse : RefuseLeftmost weight_columns weight_faults
unfolding weight_columns
weights_refuse row fields e =
    from_first (weight_columns row fields) row (weight_faults row fields) e (
    in_front row 0 (number_column 0 MAX_WEIGHT row 0 (field fields 0)) _ _ e (number_names 0 MAX_WEIGHT row 0 (field fields 0)) (λ carriage.
    in_front row 1 (number_column 0 MAX_WEIGHT row 1 (field fields 1)) _ _ e (number_names 0 MAX_WEIGHT row 1 (field fields 1)) (λ shortage.
    in_front row 2 (number_column 0 MAX_WEIGHT row 2 (field fields 2)) _ _ e (number_names 0 MAX_WEIGHT row 2 (field fields 2)) (λ shunting. none_left row 3 _ e))))

plan_refuses : RefuseLeftmost plan_columns plan_faults
unfolding plan_columns
plan_refuses row fields e =
    from_first (plan_columns row fields) row (plan_faults row fields) e (
    in_front row 0 (name_column row 0 (field fields 0)) _ _ e (name_names row 0 (field fields 0)) (λ trip.
    in_front row 1 (units_column row 1 (field fields 1)) _ _ e (units_names row 1 (field fields 1)) (λ units. none_left row 2 _ e)))

pub each_refuses : EachRefusesLeftmost
each_refuses = record {
  types = types_refuse;
  stations = stations_refuse;
  stock = stock_refuses;
  trips = trips_refuse;
  links = links_refuse;
  weights = weights_refuse;
  plan = plan_refuses;
}
