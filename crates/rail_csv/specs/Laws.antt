-- Tables in the words of their subject: what an accepted table is, and what the first wrong thing of a refused one is.
use Rattle.std.specs.Prelude.{ℕ, ◌+◌, ◌<◌, ◌≤◌, ◌≡◌, ◌≢◌, ◌↔◌, ◌⊎◌, List, [], ◌∷◌, length, take, slice_index_or, Some}
use Rattle.std.specs.Prelude.{Result, Ok, Err, IsOk}
use Rattle.std.specs.List.{slice_get}
use Rattle.rail_csv.specs.declared.refusal.TableRefusal.{TableRefusal}
use Rattle.rail_csv.specs.declared.refusal.TableRefusal.TheVariants.{WrongHeader, TooManyRows, NoRow}
use Rattle.rail_csv.specs.declared.rows.WeightsRow.{WeightsRow}
use Rattle.rail_base.specs.declared.limits.TheConstants.{MAX_WEIGHT_ROWS}
use Rattle.rail_csv.specs.declared.limits.TheConstants.{FEWEST_WEIGHT_COLUMNS}
use Rattle.rail_csv.specs.Tables.{row_of, station_rows_of, stock_rows_of, weight_header, weight_columns, weights_row_of}
use Rattle.rail_csv.specs.Tables.{Columns, records_of, type_rows_of, trip_rows_of, link_rows_of, plan_rows_of}

-- The first record is the header of a version with so many columns: the first words of all columns, those of the first
-- version at least.
pub record HasHeader (words : List (List ℕ)) (fewest width : ℕ) (records : List (List (List ℕ))) : Type 0 where
  pub header : slice_get records 0 ≡ Some (take width words)
  pub least : fewest ≤ width
  pub most : width ≤ length words

-- what the columns make of the record at a place, which is the number of its row
abbrev pub row_at : {Row : Type 0} → ℕ → Columns Row → List (List (List ℕ)) → ℕ → Result Row TableRefusal
row_at width columns records row = row_of width columns row (slice_index_or records row [])

-- The records are a table of these rows, in the version with so many columns: its header, and at most as many rows as
-- the table may have, each of them what its record reads as.
pub record IsTableOf {Row : Type 0} (words : List (List ℕ)) (fewest width limit : ℕ) (columns : Columns Row)
    (records : List (List (List ℕ))) (rows : List Row) : Type 0 where
  pub first : HasHeader words fewest width records
  pub count : length records ≡ length rows + 1
  pub few : length rows ≤ limit
  pub each : (k : ℕ) (row : Row) → slice_get rows k ≡ Some row → row_at width columns records (k + 1) ≡ Ok row

-- the records are a table of these rows in one of its versions
abbrev pub IsTable : {Row : Type 0} → List (List ℕ) → ℕ → ℕ → Columns Row → List (List (List ℕ)) → List Row → Type 0
IsTable words fewest limit columns records rows = (width : ℕ) × IsTableOf words fewest width limit columns records rows

-- the rows before this one are right
abbrev pub AreRightBefore : {Row : Type 0} → ℕ → Columns Row → List (List (List ℕ)) → ℕ → Type 0
AreRightBefore width columns records row = (k : ℕ) → 1 ≤ k → k < row → IsOk (row_at width columns records k)

-- this row is wrong in this way, and it is the first that is wrong
pub record IsFirstWrongRow {Row : Type 0} (width limit : ℕ) (columns : Columns Row) (records : List (List (List ℕ)))
    (e : TableRefusal) (row : ℕ) : Type 0 where
  pub one : 1 ≤ row
  pub few : row ≤ limit
  pub there : row < length records
  pub before : AreRightBefore width columns records row
  pub wrong : row_at width columns records row ≡ Err e

-- the rows up to the limit are right, and one more is there
pub record HasTooManyRows {Row : Type 0} (width limit : ℕ) (columns : Columns Row)
    (records : List (List (List ℕ))) : Type 0 where
  pub before : AreRightBefore width columns records (limit + 1)
  pub more : limit + 1 < length records

-- under the header of a version with so many columns, a row is the first that is wrong, or there are too many rows
abbrev pub IsFirstWrongUnder : {Row : Type 0} → ℕ → ℕ → Columns Row → List (List (List ℕ)) → TableRefusal → Type 0
IsFirstWrongUnder width limit columns records e =
    ((row : ℕ) × IsFirstWrongRow width limit columns records e row)
    ⊎ (HasTooManyRows width limit columns records × (e ≡ TooManyRows))

-- The first wrong thing in the records: no version's header is there; or one is there, and a row is the first that is
-- wrong; or there are too many rows.
abbrev pub IsFirstWrong : {Row : Type 0} → List (List ℕ) → ℕ → ℕ → Columns Row → List (List (List ℕ)) → TableRefusal
    → Type 0
IsFirstWrong words fewest limit columns records e =
    (((width : ℕ) → ¬ (HasHeader words fewest width records)) × (e ≡ WrongHeader))
    ⊎ ((width : ℕ) × HasHeader words fewest width records × IsFirstWrongUnder width limit columns records e)

-- ---- the weights

-- the records are a weights table of these rows, of which there is one at most
abbrev pub IsWeightsTable : List (List (List ℕ)) → List WeightsRow → Type 0
IsWeightsTable records rows = IsTable weight_header FEWEST_WEIGHT_COLUMNS MAX_WEIGHT_ROWS weight_columns records rows

-- whatever the bytes are, no table but the weights is refused because it has no row
pub record NoOtherTableWantsARow : Type 0 where
  pub types : (bytes : List ℕ) → type_rows_of bytes ≢ Err NoRow
  pub stations : (bytes : List ℕ) → station_rows_of bytes ≢ Err NoRow
  pub stock : (bytes : List ℕ) → stock_rows_of bytes ≢ Err NoRow
  pub trips : (bytes : List ℕ) → trip_rows_of bytes ≢ Err NoRow
  pub links : (bytes : List ℕ) → link_rows_of bytes ≢ Err NoRow
  pub plan : (bytes : List ℕ) → plan_rows_of bytes ≢ Err NoRow

-- By the definition of the reader of weights, which its call meets but for want of memory, bytes are read as a row of
-- weights exactly where all of their records are a table of this one row. They are refused for want of a row exactly
-- where all of their records are a table of none, which is the header alone. They are refused for anything else exactly
-- where it is the first wrong thing in the records. No other table is refused for want of a row.
pub record WeightsAreOneRow : Type 0 where
  pub row : (bytes : List ℕ) (row : WeightsRow) → (weights_row_of bytes ≡ Ok row)
      ↔ IsWeightsTable (records_of bytes) (row ∷ [])
  pub none : (bytes : List ℕ) → (weights_row_of bytes ≡ Err NoRow) ↔ IsWeightsTable (records_of bytes) []
  pub wrong : (bytes : List ℕ) (e : TableRefusal) → e ≢ NoRow → (weights_row_of bytes ≡ Err e)
      ↔ IsFirstWrong weight_header FEWEST_WEIGHT_COLUMNS MAX_WEIGHT_ROWS weight_columns (records_of bytes) e
  pub others : NoOtherTableWantsARow
