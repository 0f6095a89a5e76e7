-- The rows of an accepted table are within the ranges of their columns, and no more than the limit.
use Rattle.std.proofs.Common.{◌≡◌, ℕ, ◌+◌, ◌≤◌, ltb, eqb, List, [], ◌∷◌, length, Result, Ok, Err, subst, arith}
use Rattle.std.specs.Prelude.{IfOk}
use Rattle.std.specs.Global.{Vec}
use Rattle.std.specs.List.{AllByRecursion, list_all}
use Rattle.std.specs.Str.{is_utf8}
use Rattle.std.proofs.lemmas.Bool.{ltb-false}
use Rattle.std.proofs.lemmas.List.Elements.{All-from_recursion}
use Rattle.rail_base.specs.Answers.{Gives, GivesRows}
use Rattle.rail_base.specs.declared.limits.TheConstants.{MAX_TYPES, MAX_STATIONS, MAX_STOCK_ROWS, MAX_TRIPS}
use Rattle.rail_base.specs.declared.limits.TheConstants.{MAX_LINKS, MAX_WEIGHT_ROWS, MAX_PLAN_ROWS}
use Rattle.rail_csv.specs.declared.limits.TheConstants.{FEWEST_TYPE_COLUMNS, FEWEST_STATION_COLUMNS}
use Rattle.rail_csv.specs.declared.limits.TheConstants.{FEWEST_STOCK_COLUMNS, FEWEST_TRIP_COLUMNS, FEWEST_LINK_COLUMNS}
use Rattle.rail_csv.specs.declared.limits.TheConstants.{FEWEST_WEIGHT_COLUMNS, FEWEST_PLAN_COLUMNS}
use Rattle.rail_csv.specs.declared.refusal.TableRefusal.{TableRefusal}
use Rattle.rail_csv.specs.declared.rows.TypeRow.{TypeRow}
use Rattle.rail_csv.specs.declared.rows.StationRow.{StationRow}
use Rattle.rail_csv.specs.declared.rows.StockRow.{StockRow}
use Rattle.rail_csv.specs.declared.rows.TripRow.{TripRow}
use Rattle.rail_csv.specs.declared.rows.LinkRow.{LinkRow}
use Rattle.rail_csv.specs.declared.rows.WeightsRow.{WeightsRow}
use Rattle.rail_csv.specs.declared.rows.PlanRow.{PlanRow}
use Rattle.rail_csv.specs.Tables.{Columns, is_header, is_memory, row_of, rows_from, rows_under, records_of, table_of}
use Rattle.rail_csv.specs.Tables.{the_row, type_header, type_columns, type_rows_of, station_header, station_columns}
use Rattle.rail_csv.specs.Tables.{station_rows_of, stock_header, stock_columns, stock_rows_of, trip_header, trip_columns}
use Rattle.rail_csv.specs.Tables.{trip_rows_of, link_header, link_columns, link_rows_of, weight_header, weight_columns}
use Rattle.rail_csv.specs.Tables.{weights_row_of, plan_header, plan_columns, plan_rows_of}
use Rattle.rail_csv.specs.Rows.{AreRows, IsTypeRow, IsStationRow, IsStockRow, IsTripRow, IsLinkRow, IsWeightsRow}
use Rattle.rail_csv.specs.Rows.{IsPlanRow}
use Rattle.rail_csv.proofs.Steps.{step, same, went_on, passed, passed_both}
use Rattle.rail_csv.proofs.Spelling.{type_meets, station_meets, stock_meets, trip_meets, link_meets, weight_meets}
use Rattle.rail_csv.proofs.Spelling.{plan_meets}

-- ---- the rows of a table

row_read : {Row : Type 0} (width : ℕ) (columns : Columns Row) (row : ℕ) (fields : List (List ℕ)) (r : Row) → row_of width columns row fields ≡ Ok r → columns row fields ≡ Ok r
unfolding row_of
row_read width columns row fields r e = (passed_both (eqb (length fields) width) (list_all is_utf8 fields) (columns row fields) r _ _ e).2

rows_read : {Row : Type 0} (IsRow : Row → Type 0) (width limit : ℕ) (columns : Columns Row) → ((row : ℕ) (fields : List (List ℕ)) (r : Row) → columns row fields ≡ Ok r → IsRow r)
    → (records : List (List (List ℕ))) (row : ℕ) (rows : List Row) → row ≤ limit + 1 → rows_from width limit columns row records ≡ Ok rows → (length rows + row ≤ limit + 1) × AllByRecursion IsRow rows
unfolding rows_from
rows_read IsRow width limit columns meets [] row rows le e =
    subst (λ (rs : List _). (length rs + row ≤ limit + 1) × AllByRecursion IsRow rs) (same [] rows e) (omega arith, tt)
rows_read IsRow width limit columns meets (fields ∷ others) row rows le e =
    let k = went_on (ltb limit row) _ rows _ e in
    let below : row ≤ limit = ltb-false limit row k.0 in
    step k.1 IsRow (λ r read. meets row fields r (row_read width columns row fields r read)) (λ first first_is e1.
    step e1 (λ rest. (length rest + (row + 1) ≤ limit + 1) × AllByRecursion IsRow rest) (λ rest read. rows_read IsRow width limit columns meets others (row + 1) rest (omega arith) read) (λ rest rest_is e2.
    subst (λ (rs : List _). (length rs + row ≤ limit + 1) × AllByRecursion IsRow rs) (same (first ∷ rest) rows e2) (omega (arith, rest_is.0), (first_is, rest_is.1))))

-- the rows of an accepted table
pub table_read : {Row : Type 0} (IsRow : Row → Type 0) (words : List (List ℕ)) (fewest limit : ℕ) (columns : Columns Row) → ((row : ℕ) (fields : List (List ℕ)) (r : Row) → columns row fields ≡ Ok r → IsRow r)
    → (records : List (List (List ℕ))) (rows : List Row) → rows_under words fewest limit columns records ≡ Ok rows → AreRows limit IsRow rows
unfolding rows_under
table_read IsRow words fewest limit columns meets [] rows e = absurd cc
table_read IsRow words fewest limit columns meets (first ∷ others) rows e =
    let k = (passed (is_header words fewest first) _ rows _ e).1 in
    let read = rows_read IsRow (length first) limit columns meets others 1 rows (omega arith) k in
    record { few = omega (arith, read.0); each = All-from_recursion IsRow rows read.1 }

table_rows : {Row : Type 0} (IsRow : Row → Type 0) (words : List (List ℕ)) (fewest limit : ℕ) (columns : Columns Row) → ((row : ℕ) (fields : List (List ℕ)) (r : Row) → columns row fields ≡ Ok r → IsRow r)
    → (records : List (List (List ℕ))) (rows : List Row) → rows_under words fewest limit columns records ≡ Ok rows → AllByRecursion IsRow rows
unfolding rows_under
table_rows IsRow words fewest limit columns meets [] rows e = absurd cc
table_rows IsRow words fewest limit columns meets (first ∷ others) rows e =
    (rows_read IsRow (length first) limit columns meets others 1 rows (omega arith) (passed (is_header words fewest first) _ rows _ e).1).1

accepted : {Row : Type 0} (IsRow : Row → Type 0) (limit : ℕ) (result : Result (Vec Row) TableRefusal) (read : Result (List Row) TableRefusal) → ((rows : List Row) → read ≡ Ok rows → AreRows limit IsRow rows)
    → GivesRows is_memory result read → IfOk result (λ v. AreRows limit IsRow v.items)
accepted IsRow limit (Ok v) read meets given = meets v.items given
accepted IsRow limit (Err e) read meets given = tt

-- each reader's rows are within the ranges of its columns

pub types_within : (bytes : List ℕ) (rows : List TypeRow) → type_rows_of bytes ≡ Ok rows → AreRows MAX_TYPES IsTypeRow rows
unfolding type_rows_of table_of
types_within bytes rows e = table_read IsTypeRow type_header FEWEST_TYPE_COLUMNS MAX_TYPES type_columns (λ row fields r read. (type_meets row fields r read).1) (records_of bytes) rows e

pub types_are : (result : Result (Vec TypeRow) TableRefusal) (bytes : List ℕ) → GivesRows is_memory result (type_rows_of bytes) → IfOk result (λ v. AreRows MAX_TYPES IsTypeRow v.items)
types_are result bytes given = accepted IsTypeRow MAX_TYPES result (type_rows_of bytes) (types_within bytes) given

pub stations_within : (bytes : List ℕ) (rows : List StationRow) → station_rows_of bytes ≡ Ok rows → AreRows MAX_STATIONS IsStationRow rows
unfolding station_rows_of table_of
stations_within bytes rows e = table_read IsStationRow station_header FEWEST_STATION_COLUMNS MAX_STATIONS station_columns (λ row fields r read. (station_meets row fields r read).1) (records_of bytes) rows e

pub stations_are : (result : Result (Vec StationRow) TableRefusal) (bytes : List ℕ) → GivesRows is_memory result (station_rows_of bytes) → IfOk result (λ v. AreRows MAX_STATIONS IsStationRow v.items)
stations_are result bytes given = accepted IsStationRow MAX_STATIONS result (station_rows_of bytes) (stations_within bytes) given

pub stock_within : (bytes : List ℕ) (rows : List StockRow) → stock_rows_of bytes ≡ Ok rows → AreRows MAX_STOCK_ROWS IsStockRow rows
unfolding stock_rows_of table_of
stock_within bytes rows e = table_read IsStockRow stock_header FEWEST_STOCK_COLUMNS MAX_STOCK_ROWS stock_columns (λ row fields r read. (stock_meets row fields r read).1) (records_of bytes) rows e

pub stock_are : (result : Result (Vec StockRow) TableRefusal) (bytes : List ℕ) → GivesRows is_memory result (stock_rows_of bytes) → IfOk result (λ v. AreRows MAX_STOCK_ROWS IsStockRow v.items)
stock_are result bytes given = accepted IsStockRow MAX_STOCK_ROWS result (stock_rows_of bytes) (stock_within bytes) given

pub trips_within : (bytes : List ℕ) (rows : List TripRow) → trip_rows_of bytes ≡ Ok rows → AreRows MAX_TRIPS IsTripRow rows
unfolding trip_rows_of table_of
trips_within bytes rows e = table_read IsTripRow trip_header FEWEST_TRIP_COLUMNS MAX_TRIPS trip_columns (λ row fields r read. (trip_meets row fields r read).1) (records_of bytes) rows e

pub trips_are : (result : Result (Vec TripRow) TableRefusal) (bytes : List ℕ) → GivesRows is_memory result (trip_rows_of bytes) → IfOk result (λ v. AreRows MAX_TRIPS IsTripRow v.items)
trips_are result bytes given = accepted IsTripRow MAX_TRIPS result (trip_rows_of bytes) (trips_within bytes) given

pub links_within : (bytes : List ℕ) (rows : List LinkRow) → link_rows_of bytes ≡ Ok rows → AreRows MAX_LINKS IsLinkRow rows
unfolding link_rows_of table_of
links_within bytes rows e = table_read IsLinkRow link_header FEWEST_LINK_COLUMNS MAX_LINKS link_columns (λ row fields r read. (link_meets row fields r read).1) (records_of bytes) rows e

pub links_are : (result : Result (Vec LinkRow) TableRefusal) (bytes : List ℕ) → GivesRows is_memory result (link_rows_of bytes) → IfOk result (λ v. AreRows MAX_LINKS IsLinkRow v.items)
links_are result bytes given = accepted IsLinkRow MAX_LINKS result (link_rows_of bytes) (links_within bytes) given

pub plan_within : (bytes : List ℕ) (rows : List PlanRow) → plan_rows_of bytes ≡ Ok rows → AreRows MAX_PLAN_ROWS IsPlanRow rows
unfolding plan_rows_of table_of
plan_within bytes rows e = table_read IsPlanRow plan_header FEWEST_PLAN_COLUMNS MAX_PLAN_ROWS plan_columns (λ row fields r read. (plan_meets row fields r read).1) (records_of bytes) rows e

pub plan_are : (result : Result (Vec PlanRow) TableRefusal) (bytes : List ℕ) → GivesRows is_memory result (plan_rows_of bytes) → IfOk result (λ v. AreRows MAX_PLAN_ROWS IsPlanRow v.items)
plan_are result bytes given = accepted IsPlanRow MAX_PLAN_ROWS result (plan_rows_of bytes) (plan_within bytes) given

the_row_meets : (rows : List WeightsRow) (row : WeightsRow) → AllByRecursion IsWeightsRow rows → the_row rows ≡ Ok row → IsWeightsRow row
the_row_meets [] row each e = absurd cc
the_row_meets (first ∷ others) row each e = subst IsWeightsRow (same first row e) each.0

pub weights_within : (bytes : List ℕ) (row : WeightsRow) → weights_row_of bytes ≡ Ok row → IsWeightsRow row
unfolding weights_row_of table_of
weights_within bytes row e =
    step e (λ rows. AllByRecursion IsWeightsRow rows) (λ rows read. table_rows IsWeightsRow weight_header FEWEST_WEIGHT_COLUMNS MAX_WEIGHT_ROWS weight_columns (λ row fields r read. (weight_meets row fields r read).1) (records_of bytes) rows read) (λ rows each e1. the_row_meets rows row each e1)

pub weights_are : (result : Result WeightsRow TableRefusal) (bytes : List ℕ) → Gives is_memory result (weights_row_of bytes) → IfOk result (λ row. IsWeightsRow row)
weights_are (Ok row) bytes given = weights_within bytes row given
weights_are (Err e) bytes given = tt
