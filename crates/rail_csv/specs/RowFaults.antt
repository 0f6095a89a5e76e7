-- What is wrong in a row that is refused: its number of fields, a field that is not UTF-8, or the leftmost of the
-- columns that refuse their fields.
use Rattle.std.specs.Prelude.{ℕ, ◌<◌, ◌≡◌, ◌≢◌, ◌↔◌, ◌⊎◌, List, [], ◌∷◌, length, slice_get, All, Any, IsUtf8, codes}
use Rattle.std.specs.Prelude.{Option, Some, None, Err}
use Rattle.std.specs.Result.{result_err}
use Rattle.rail_base.specs.declared.limits.TheConstants.{MAX_CARRIAGES, MAX_SEATS, MAX_FIRST_SEATS, MAX_METRES}
use Rattle.rail_base.specs.declared.limits.TheConstants.{MAX_PLATFORM, MAX_REALLOCATION, MAX_STOCK, MAX_KM}
use Rattle.rail_base.specs.declared.limits.TheConstants.{MAX_DEMAND, MAX_FIRST_DEMAND, MAX_WEIGHT}
use Rattle.rail_csv.specs.declared.refusal.TableRefusal.{TableRefusal}
use Rattle.rail_csv.specs.declared.refusal.TableRefusal.TheVariants.{NotUtf8, FieldCount}
use Rattle.rail_csv.specs.declared.refusal.TableRefusal.TheVariants.{BadNumber, OutOfRange, BadTime, BadName, BadWord}
use Rattle.rail_csv.specs.Columns.{field, field_or, number_column, time_column, name_column, optional_name_column}
use Rattle.rail_csv.specs.Columns.{kind_column, answer_column, end_column, units_column}
use Rattle.rail_csv.specs.Tables.{Columns, type_columns, station_columns, stock_columns, trip_columns, link_columns}
use Rattle.rail_csv.specs.Tables.{weight_columns, plan_columns}

-- ---- a row

-- The first wrong thing of a row whose version has so many columns: the row has another number of fields; or it has as
-- many, and a field is not UTF-8; or all of them are, and it is what the columns refuse.
abbrev pub IsWrongRow : {Row : Type 0} → ℕ → Columns Row → ℕ → List (List ℕ) → TableRefusal → Type 0
IsWrongRow width columns row fields e =
    ((length fields ≢ width) × (e ≡ FieldCount row (length fields)))
    ⊎ ((length fields ≡ width) × Any (λ text. ¬ (IsUtf8 text)) fields × (e ≡ NotUtf8 row))
    ⊎ ((length fields ≡ width) × All (λ text. IsUtf8 text) fields × (columns row fields ≡ Err e))

-- ---- its columns

-- what the columns of a row refuse, from left to right, each whatever stands in the others: `None` is a field that its
-- column takes
abbrev pub ColumnFaults : Type 0
ColumnFaults = ℕ → List (List ℕ) → List (Option TableRefusal)

-- the row and the column that a refusal of a field names
abbrev pub field_named : TableRefusal → Option (ℕ × ℕ)
field_named (BadNumber row column) = Some (row, column)
field_named (OutOfRange row column) = Some (row, column)
field_named (BadTime row column) = Some (row, column)
field_named (BadName row column) = Some (row, column)
field_named (BadWord row column) = Some (row, column)
field_named e = None

-- the refusal is that of a column of this row, which it names, and no column to its left refuses its field
pub record IsLeftmost (row : ℕ) (faults : List (Option TableRefusal)) (e : TableRefusal) : Type 0 where
  pub column : ℕ
  pub at : slice_get faults column ≡ Some (Some e)
  pub before : (k : ℕ) → k < column → slice_get faults k ≡ Some None
  pub named : field_named e ≡ Some (row, column)

-- the columns refuse a row for exactly what the leftmost of those that refuse their fields says, with the row and the
-- number of that column
abbrev pub RefuseLeftmost : {Row : Type 0} → Columns Row → ColumnFaults → Type 0
RefuseLeftmost columns faults = (row : ℕ) (fields : List (List ℕ)) (e : TableRefusal)
    → (columns row fields ≡ Err e) ↔ IsLeftmost row (faults row fields) e

-- ---- the columns of the seven tables

abbrev pub type_faults : ColumnFaults
type_faults row fields =
    result_err (name_column row 0 (field fields 0))
    ∷ result_err (number_column 1 MAX_CARRIAGES row 1 (field fields 1))
    ∷ result_err (number_column 1 MAX_SEATS row 2 (field fields 2))
    ∷ result_err (number_column 1 MAX_METRES row 3 (field fields 3))
    ∷ result_err (name_column row 4 (field fields 4))
    ∷ result_err (number_column 0 MAX_FIRST_SEATS row 5 (field_or (codes "0") fields 5))
    ∷ []

abbrev pub station_faults : ColumnFaults
station_faults row fields =
    result_err (name_column row 0 (field fields 0))
    ∷ result_err (number_column 1 MAX_PLATFORM row 1 (field fields 1))
    ∷ result_err (number_column 0 MAX_REALLOCATION row 2 (field fields 2))
    ∷ []

abbrev pub stock_faults : ColumnFaults
stock_faults row fields =
    result_err (name_column row 0 (field fields 0))
    ∷ result_err (name_column row 1 (field fields 1))
    ∷ result_err (number_column 0 MAX_STOCK row 2 (field fields 2))
    ∷ result_err (number_column 0 MAX_STOCK row 3 (field fields 3))
    ∷ []

abbrev pub trip_faults : ColumnFaults
trip_faults row fields =
    result_err (name_column row 0 (field fields 0))
    ∷ result_err (name_column row 1 (field fields 1))
    ∷ result_err (time_column row 2 (field fields 2))
    ∷ result_err (name_column row 3 (field fields 3))
    ∷ result_err (time_column row 4 (field fields 4))
    ∷ result_err (number_column 1 MAX_KM row 5 (field fields 5))
    ∷ result_err (number_column 0 MAX_DEMAND row 6 (field fields 6))
    ∷ result_err (number_column 0 MAX_FIRST_DEMAND row 7 (field_or (codes "0") fields 7))
    ∷ []

abbrev pub link_faults : ColumnFaults
link_faults row fields =
    result_err (kind_column row 0 (field fields 0))
    ∷ result_err (name_column row 1 (field fields 1))
    ∷ result_err (optional_name_column row 2 (field fields 2))
    ∷ result_err (name_column row 3 (field fields 3))
    ∷ result_err (optional_name_column row 4 (field fields 4))
    ∷ result_err (answer_column row 5 (field fields 5))
    ∷ result_err (end_column row 6 (field fields 6))
    ∷ result_err (end_column row 7 (field fields 7))
    ∷ result_err (answer_column row 8 (field_or (codes "no") fields 8))
    ∷ []

abbrev pub weight_faults : ColumnFaults
weight_faults row fields =
    result_err (number_column 0 MAX_WEIGHT row 0 (field fields 0))
    ∷ result_err (number_column 0 MAX_WEIGHT row 1 (field fields 1))
    ∷ result_err (number_column 0 MAX_WEIGHT row 2 (field fields 2))
    ∷ []

abbrev pub plan_faults : ColumnFaults
plan_faults row fields =
    result_err (name_column row 0 (field fields 0))
    ∷ result_err (units_column row 1 (field fields 1))
    ∷ []

-- the columns of each table refuse a row for what the leftmost of those that refuse their fields says
pub record EachRefusesLeftmost : Type 0 where
  pub types : RefuseLeftmost type_columns type_faults
  pub stations : RefuseLeftmost station_columns station_faults
  pub stock : RefuseLeftmost stock_columns stock_faults
  pub trips : RefuseLeftmost trip_columns trip_faults
  pub links : RefuseLeftmost link_columns link_faults
  pub weights : RefuseLeftmost weight_columns weight_faults
  pub plan : RefuseLeftmost plan_columns plan_faults
