-- The weights are one row, and want of a row is a refusal of theirs alone.
use Rattle.std.proofs.Common.{◌≡◌, ◌≢◌, ℕ, ◌+◌, Bool, true, false, cond, ltb, eqb, leb, ◌&&◌, List, [], ◌∷◌, length}
use Rattle.std.proofs.Common.{Result, Ok, Err, refl, ap, subst, arith}
use Rattle.std.specs.Prelude.{codes}
use Rattle.std.specs.List.{list_all}
use Rattle.std.specs.Str.{bytes_eq, is_utf8}
use Rattle.rail_base.specs.Answers.{◌>>=◌}
use Rattle.rail_base.specs.Names.{is_name}
use Rattle.rail_base.specs.declared.limits.TheConstants.{MAX_TYPES, MAX_STATIONS, MAX_STOCK_ROWS, MAX_TRIPS}
use Rattle.rail_base.specs.declared.limits.TheConstants.{MAX_LINKS, MAX_WEIGHT_ROWS, MAX_PLAN_ROWS, MAX_CARRIAGES}
use Rattle.rail_base.specs.declared.limits.TheConstants.{MAX_SEATS, MAX_FIRST_SEATS, MAX_METRES, MAX_PLATFORM}
use Rattle.rail_base.specs.declared.limits.TheConstants.{MAX_REALLOCATION, MAX_STOCK, MAX_KM, MAX_DEMAND}
use Rattle.rail_base.specs.declared.limits.TheConstants.{MAX_FIRST_DEMAND, MAX_WEIGHT, MAX_COMPOSITION_UNITS}
use Rattle.rail_csv.specs.declared.limits.TheConstants.{FEWEST_TYPE_COLUMNS, FEWEST_STATION_COLUMNS}
use Rattle.rail_csv.specs.declared.limits.TheConstants.{FEWEST_STOCK_COLUMNS, FEWEST_TRIP_COLUMNS, FEWEST_LINK_COLUMNS}
use Rattle.rail_csv.specs.declared.limits.TheConstants.{FEWEST_WEIGHT_COLUMNS, FEWEST_PLAN_COLUMNS}
use Rattle.rail_csv.specs.declared.refusal.TableRefusal.{TableRefusal}
use Rattle.rail_csv.specs.declared.refusal.TableRefusal.TheVariants.{NoRow}
use Rattle.rail_csv.specs.declared.rows.WeightsRow.{WeightsRow}
use Rattle.rail_csv.specs.Fields.{is_number, number_of, is_time, pieces_of, numbers_of, is_unit}
use Rattle.rail_csv.specs.Columns.{field, field_or, number_column, time_column, name_column, optional_name_column}
use Rattle.rail_csv.specs.Columns.{kind_column, answer_column, end_column, units_column}
use Rattle.rail_csv.specs.Tables.{Columns, is_header, row_of, rows_from, rows_under, records_of, table_of}
use Rattle.rail_csv.specs.Tables.{the_row, type_header, type_columns, type_rows_of, station_header, station_columns}
use Rattle.rail_csv.specs.Tables.{station_rows_of, stock_header, stock_columns, stock_rows_of, trip_header, trip_columns}
use Rattle.rail_csv.specs.Tables.{trip_rows_of, link_header, link_columns, link_rows_of, weight_header, weight_columns}
use Rattle.rail_csv.specs.Tables.{weights_row_of, plan_header, plan_columns, plan_rows_of}
use Rattle.rail_csv.specs.Laws.{IsFirstWrong, IsWeightsTable, NoOtherTableWantsARow}
use Rattle.rail_csv.proofs.Steps.{step}
use Rattle.rail_csv.proofs.Whole.{is_table, table_is, is_first_wrong, first_wrong_is}

-- ---- steps that don't end for want of a row

same_why : {A : Type 0} (d w : TableRefusal) → ◌≡◌ {A = Result A TableRefusal} (Err d) (Err w) → d ≡ w
same_why d w e = cc

-- a step that ends in a refusal: its own, or that of what follows it
ends : {A B : Type 0} {read : Result A TableRefusal} {next : A → Result B TableRefusal} {why : TableRefusal} → (read >>= next) ≡ Err why → {Q : Type 0} → (read ≡ Err why → Q) → ((a : A) → read ≡ Ok a → next a ≡ Err why → Q) → Q
ends {read = Ok a} e here later = later a refl e
ends {read = Err d} e here later = here (ap (λ w. Err w) (same_why d _ e))

abbrev HasItsRow : {A : Type 0} → Result A TableRefusal → Type 0
HasItsRow read = read ≢ Err NoRow

-- a step and what follows it
next : {A B : Type 0} {read : Result A TableRefusal} {then : A → Result B TableRefusal} → (read >>= then) ≡ Err NoRow → HasItsRow read → ((a : A) → then a ≡ Err NoRow → ⊥) → ⊥
next e has later = ends e has (λ a _ e1. later a e1)

-- one of two
either : {A : Type 0} (b : Bool) (x y : Result A TableRefusal) → HasItsRow x → HasItsRow y → HasItsRow (cond b x y)
either true x y one other = one
either false x y one other = other

ok_has : {A : Type 0} (x : A) → ◌≢◌ {A = Result A TableRefusal} (Ok x) (Err NoRow)
ok_has x e = absurd cc

-- ---- each kind of column

number_has : (low high row column : ℕ) (text : List ℕ) → HasItsRow (number_column low high row column text)
unfolding number_column
number_has low high row column text = either (is_number text) _ _ (either (leb low (number_of text) && leb (number_of text) high) _ _ (ok_has _) (λ e. absurd cc)) (λ e. absurd cc)

time_has : (row column : ℕ) (text : List ℕ) → HasItsRow (time_column row column text)
unfolding time_column
time_has row column text = either (is_time text) _ _ (ok_has _) (λ e. absurd cc)

name_has : (row column : ℕ) (text : List ℕ) → HasItsRow (name_column row column text)
unfolding name_column
name_has row column text = either (is_name text) _ _ (ok_has _) (λ e. absurd cc)

optional_name_has : (row column : ℕ) (text : List ℕ) → HasItsRow (optional_name_column row column text)
unfolding optional_name_column
optional_name_has row column [] e = absurd cc
optional_name_has row column (byte ∷ text) e = next e (name_has row column (byte ∷ text)) (λ name e1. absurd cc)

kind_has : (row column : ℕ) (text : List ℕ) → HasItsRow (kind_column row column text)
unfolding kind_column
kind_has row column text =
    either (bytes_eq text (codes "turn")) _ _ (ok_has _)
    (either (bytes_eq text (codes "join")) _ _ (ok_has _)
    (either (bytes_eq text (codes "split")) _ _ (ok_has _) (λ e. absurd cc)))

answer_has : (row column : ℕ) (text : List ℕ) → HasItsRow (answer_column row column text)
unfolding answer_column
answer_has row column text =
    either (bytes_eq text (codes "yes")) _ _ (ok_has _) (either (bytes_eq text (codes "no")) _ _ (ok_has _) (λ e. absurd cc))

end_has : (row column : ℕ) (text : List ℕ) → HasItsRow (end_column row column text)
unfolding end_column
end_has row column text =
    either (bytes_eq text (codes "none")) _ _ (ok_has _)
    (either (bytes_eq text (codes "front")) _ _ (ok_has _)
    (either (bytes_eq text (codes "rear")) _ _ (ok_has _) (λ e. absurd cc)))

units_has : (row column : ℕ) (text : List ℕ) → HasItsRow (units_column row column text)
unfolding units_column
units_has row column text = either (list_all is_number (pieces_of text)) _ _ (either (leb (length (numbers_of text)) MAX_COMPOSITION_UNITS && list_all is_unit (numbers_of text)) _ _ (ok_has _) (λ e. absurd cc)) (λ e. absurd cc)

-- ---- the columns of each table

abbrev HaveTheirRow : {Row : Type 0} → Columns Row → Type 0
HaveTheirRow columns = (row : ℕ) (fields : List (List ℕ)) → HasItsRow (columns row fields)

type_has : HaveTheirRow type_columns
unfolding type_columns
type_has row fields e =
    next e (name_has row 0 (field fields 0)) (λ name e1.
    next e1 (number_has 1 MAX_CARRIAGES row 1 (field fields 1)) (λ carriages e2.
    next e2 (number_has 1 MAX_SEATS row 2 (field fields 2)) (λ seats e3.
    next e3 (number_has 1 MAX_METRES row 3 (field fields 3)) (λ metres e4.
    next e4 (name_has row 4 (field fields 4)) (λ family e5.
    next e5 (number_has 0 MAX_FIRST_SEATS row 5 (field_or (codes "0") fields 5)) (λ first e6. absurd cc))))))

station_has : HaveTheirRow station_columns
unfolding station_columns
station_has row fields e =
    next e (name_has row 0 (field fields 0)) (λ name e1.
    next e1 (number_has 1 MAX_PLATFORM row 1 (field fields 1)) (λ platform e2.
    next e2 (number_has 0 MAX_REALLOCATION row 2 (field fields 2)) (λ reallocation e3. absurd cc)))

stock_has : HaveTheirRow stock_columns
unfolding stock_columns
stock_has row fields e =
    next e (name_has row 0 (field fields 0)) (λ station e1.
    next e1 (name_has row 1 (field fields 1)) (λ unit_type e2.
    next e2 (number_has 0 MAX_STOCK row 2 (field fields 2)) (λ start e3.
    next e3 (number_has 0 MAX_STOCK row 3 (field fields 3)) (λ end e4. absurd cc))))

trip_has : HaveTheirRow trip_columns
unfolding trip_columns
trip_has row fields e =
    next e (name_has row 0 (field fields 0)) (λ name e1.
    next e1 (name_has row 1 (field fields 1)) (λ from e2.
    next e2 (time_has row 2 (field fields 2)) (λ departure e3.
    next e3 (name_has row 3 (field fields 3)) (λ to e4.
    next e4 (time_has row 4 (field fields 4)) (λ arrival e5.
    next e5 (number_has 1 MAX_KM row 5 (field fields 5)) (λ km e6.
    next e6 (number_has 0 MAX_DEMAND row 6 (field fields 6)) (λ demand e7.
    next e7 (number_has 0 MAX_FIRST_DEMAND row 7 (field_or (codes "0") fields 7)) (λ first e8. absurd cc))))))))

link_has : HaveTheirRow link_columns
unfolding link_columns
link_has row fields e =
    next e (kind_has row 0 (field fields 0)) (λ kind e1.
    next e1 (name_has row 1 (field fields 1)) (λ arriving e2.
    next e2 (optional_name_has row 2 (field fields 2)) (λ arriving2 e3.
    next e3 (name_has row 3 (field fields 3)) (λ departing e4.
    next e4 (optional_name_has row 4 (field fields 4)) (λ departing2 e5.
    next e5 (answer_has row 5 (field fields 5)) (λ reverse e6.
    next e6 (end_has row 6 (field fields 6)) (λ uncouple e7.
    next e7 (end_has row 7 (field fields 7)) (λ couple e8.
    next e8 (answer_has row 8 (field_or (codes "no") fields 8)) (λ exchange e9. absurd cc)))))))))

weight_has : HaveTheirRow weight_columns
unfolding weight_columns
weight_has row fields e =
    next e (number_has 0 MAX_WEIGHT row 0 (field fields 0)) (λ carriage e1.
    next e1 (number_has 0 MAX_WEIGHT row 1 (field fields 1)) (λ shortage e2.
    next e2 (number_has 0 MAX_WEIGHT row 2 (field fields 2)) (λ shunting e3. absurd cc)))

plan_has : HaveTheirRow plan_columns
unfolding plan_columns
plan_has row fields e =
    next e (name_has row 0 (field fields 0)) (λ trip e1.
    next e1 (units_has row 1 (field fields 1)) (λ units e2. absurd cc))

-- ---- every table

row_has : {Row : Type 0} (width : ℕ) (columns : Columns Row) → HaveTheirRow columns → (row : ℕ) (fields : List (List ℕ)) → HasItsRow (row_of width columns row fields)
unfolding row_of
row_has width columns has row fields =
    either (eqb (length fields) width) _ _ (either (list_all is_utf8 fields) _ _ (has row fields) (λ e. absurd cc)) (λ e. absurd cc)

rows_have : {Row : Type 0} (width limit : ℕ) (columns : Columns Row) → HaveTheirRow columns → (records : List (List (List ℕ))) (row : ℕ) → HasItsRow (rows_from width limit columns row records)
unfolding rows_from
rows_have width limit columns has [] row = λ e. absurd cc
rows_have width limit columns has (fields ∷ others) row =
    either (ltb limit row) _ _ (λ e. absurd cc) (λ e.
    next e (row_has width columns has row fields) (λ first e1.
    next e1 (rows_have width limit columns has others (row + 1)) (λ rest e2. absurd cc)))

under_has : {Row : Type 0} (words : List (List ℕ)) (fewest limit : ℕ) (columns : Columns Row) → HaveTheirRow columns → (records : List (List (List ℕ))) → HasItsRow (rows_under words fewest limit columns records)
unfolding rows_under
under_has words fewest limit columns has [] = λ e. absurd cc
under_has words fewest limit columns has (first ∷ others) =
    either (is_header words fewest first) _ _ (rows_have (length first) limit columns has others 1) (λ e. absurd cc)

-- no other table is refused for want of a row
pub no_other : NoOtherTableWantsARow
unfolding type_rows_of station_rows_of stock_rows_of trip_rows_of link_rows_of plan_rows_of table_of
no_other = record {
  types = λ bytes. under_has type_header FEWEST_TYPE_COLUMNS MAX_TYPES type_columns type_has (records_of bytes);
  stations = λ bytes. under_has station_header FEWEST_STATION_COLUMNS MAX_STATIONS station_columns station_has (records_of bytes);
  stock = λ bytes. under_has stock_header FEWEST_STOCK_COLUMNS MAX_STOCK_ROWS stock_columns stock_has (records_of bytes);
  trips = λ bytes. under_has trip_header FEWEST_TRIP_COLUMNS MAX_TRIPS trip_columns trip_has (records_of bytes);
  links = λ bytes. under_has link_header FEWEST_LINK_COLUMNS MAX_LINKS link_columns link_has (records_of bytes);
  plan = λ bytes. under_has plan_header FEWEST_PLAN_COLUMNS MAX_PLAN_ROWS plan_columns plan_has (records_of bytes);
}

-- ---- the weights

abbrev read_of : List ℕ → Result (List WeightsRow) TableRefusal
read_of bytes = rows_under weight_header FEWEST_WEIGHT_COLUMNS MAX_WEIGHT_ROWS weight_columns (records_of bytes)

table_read : (bytes : List ℕ) (rows : List WeightsRow) → read_of bytes ≡ Ok rows → IsWeightsTable (records_of bytes) rows
table_read bytes rows e = is_table weight_header FEWEST_WEIGHT_COLUMNS MAX_WEIGHT_ROWS weight_columns (records_of bytes) rows e

read_table : (bytes : List ℕ) (rows : List WeightsRow) → IsWeightsTable (records_of bytes) rows → read_of bytes ≡ Ok rows
read_table bytes rows is = table_is weight_header FEWEST_WEIGHT_COLUMNS MAX_WEIGHT_ROWS weight_columns (records_of bytes) rows is

one_row : (bytes : List ℕ) (row : WeightsRow) (rows : List WeightsRow) → IsWeightsTable (records_of bytes) rows → the_row rows ≡ Ok row → IsWeightsTable (records_of bytes) (row ∷ [])
one_row bytes row [] is e = absurd cc
one_row bytes row (first ∷ []) is e = let same : first ≡ row = cc in subst (λ (r : WeightsRow). IsWeightsTable (records_of bytes) (r ∷ [])) same is
one_row bytes row (first ∷ second ∷ rows) is e = absurd (omega (arith, is.1.few))

pub row_if : (bytes : List ℕ) (row : WeightsRow) → weights_row_of bytes ≡ Ok row → IsWeightsTable (records_of bytes) (row ∷ [])
unfolding weights_row_of table_of
row_if bytes row e = step e (λ rows. IsWeightsTable (records_of bytes) rows) (table_read bytes) (λ rows is e1. one_row bytes row rows is e1)

pub if_row : (bytes : List ℕ) (row : WeightsRow) → IsWeightsTable (records_of bytes) (row ∷ []) → weights_row_of bytes ≡ Ok row
unfolding weights_row_of table_of
if_row bytes row is = rw (read_table bytes (row ∷ []) is) refl

no_row : (bytes : List ℕ) (rows : List WeightsRow) → read_of bytes ≡ Ok rows → the_row rows ≡ Err NoRow → IsWeightsTable (records_of bytes) []
no_row bytes [] read e = table_read bytes [] read
no_row bytes (first ∷ rows) read e = absurd cc

pub none_if : (bytes : List ℕ) → weights_row_of bytes ≡ Err NoRow → IsWeightsTable (records_of bytes) []
unfolding weights_row_of table_of
none_if bytes e =
    ends e (λ no. absurd (under_has weight_header FEWEST_WEIGHT_COLUMNS MAX_WEIGHT_ROWS weight_columns weight_has (records_of bytes) no)) (λ rows read e1. no_row bytes rows read e1)

pub if_none : (bytes : List ℕ) → IsWeightsTable (records_of bytes) [] → weights_row_of bytes ≡ Err NoRow
unfolding weights_row_of table_of
if_none bytes is = rw (read_table bytes [] is) refl

wants_a_row : (rows : List WeightsRow) (why : TableRefusal) → the_row rows ≡ Err why → why ≡ NoRow
wants_a_row [] why e = cc
wants_a_row (first ∷ rows) why e = absurd cc

pub wrong_if : (bytes : List ℕ) (why : TableRefusal) → weights_row_of bytes ≡ Err why → why ≢ NoRow → IsFirstWrong weight_header FEWEST_WEIGHT_COLUMNS MAX_WEIGHT_ROWS weight_columns (records_of bytes) why
unfolding weights_row_of table_of
wrong_if bytes why e other =
    ends e (λ no. is_first_wrong weight_header FEWEST_WEIGHT_COLUMNS MAX_WEIGHT_ROWS weight_columns (records_of bytes) why no) (λ rows read e1. absurd (other (wants_a_row rows why e1)))

pub if_wrong : (bytes : List ℕ) (why : TableRefusal) → IsFirstWrong weight_header FEWEST_WEIGHT_COLUMNS MAX_WEIGHT_ROWS weight_columns (records_of bytes) why → weights_row_of bytes ≡ Err why
unfolding weights_row_of table_of
if_wrong bytes why wrong = rw (first_wrong_is weight_header FEWEST_WEIGHT_COLUMNS MAX_WEIGHT_ROWS weight_columns (records_of bytes) why wrong) refl
