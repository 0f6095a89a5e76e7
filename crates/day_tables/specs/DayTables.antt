-- The tables of a day and the plan, as bytes are read: what each of them is, the six tables of a day together, and the
-- day that bytes make.
use Rattle.std.specs.Prelude.{ℕ, ◌≡◌, List, Bool, Result, Ok, Err}
use Rattle.rail_base.specs.Answers.{◌>>=◌, Fails}
use Rattle.rail_csv.specs.declared.rows.Table.{Table}
use Rattle.rail_csv.specs.declared.rows.Table.TheVariants as table
use Rattle.rail_csv.specs.declared.rows.TypeRow.{TypeRow}
use Rattle.rail_csv.specs.declared.rows.StationRow.{StationRow}
use Rattle.rail_csv.specs.declared.rows.StockRow.{StockRow}
use Rattle.rail_csv.specs.declared.rows.TripRow.{TripRow}
use Rattle.rail_csv.specs.declared.rows.LinkRow.{LinkRow}
use Rattle.rail_csv.specs.declared.rows.WeightsRow.{WeightsRow}
use Rattle.rail_csv.specs.declared.rows.PlanRow.{PlanRow}
use Rattle.rail_csv.specs.declared.refusal.TableRefusal.{TableRefusal}
use Rattle.rail_csv.specs.declared.table_bytes.TableBytes.{TableBytes}
use Rattle.rail_csv.specs.Tables.{AreShort, is_memory, type_rows_of, station_rows_of, stock_rows_of, trip_rows_of}
use Rattle.rail_csv.specs.Tables.{link_rows_of, weights_row_of, plan_rows_of}
use Rattle.rail_csv.specs.Rows.{AreTypeRows, AreStationRows, AreStockRows, AreTripRows, AreLinkRows, IsWeightsRow}
use Rattle.day_tables.specs.declared.building.tables.Tables.{Tables}
use Rattle.day_tables.specs.declared.building.day_tables.WrongTable.{WrongTable}
use Rattle.day_tables.specs.Build.{day_of}
use Rattle.day_tables.specs.Day.{Day}

-- ---- one table

-- what an accepted table is: its rows, and of the weights the one row
abbrev pub RowsOf : Table → Type 0
RowsOf table.Types = List TypeRow
RowsOf table.Stations = List StationRow
RowsOf table.Stock = List StockRow
RowsOf table.Trips = List TripRow
RowsOf table.Links = List LinkRow
RowsOf table.Weights = WeightsRow
RowsOf table.Plan = List PlanRow

-- what bytes are read as: an accepted table, or the first thing that is wrong
abbrev pub reading : (table : Table) → List ℕ → Result (RowsOf table) TableRefusal
reading table.Types = type_rows_of
reading table.Stations = station_rows_of
reading table.Stock = stock_rows_of
reading table.Trips = trip_rows_of
reading table.Links = link_rows_of
reading table.Weights = weights_row_of
reading table.Plan = plan_rows_of

-- the reader of a table gives this refusal of these bytes, unless it is want of memory
abbrev pub IsWrong : Table → List ℕ → TableRefusal → Type 0
IsWrong table bytes why = Fails is_memory why (reading table bytes)

-- ---- the six tables of a day

-- tables whose rows keep within the ranges of their columns
pub record AreTables (tables : Tables) : Type 0 where
  pub types : AreTypeRows tables.types
  pub stations : AreStationRows tables.stations
  pub stock : AreStockRows tables.stock
  pub trips : AreTripRows tables.trips
  pub links : AreLinkRows tables.links
  pub weights : IsWeightsRow tables.weights

-- what is read of a table: its refusal is told of it
abbrev pub of_table : {Rows : Type 0} → Table → Result Rows TableRefusal → Result Rows WrongTable
of_table table (Ok rows) = Ok rows
of_table table (Err why) = Err (record { table = table; why = why })

-- The tables that bytes are read as, each by its own reader, or the first that is refused and why.
unfoldable pub tables_of : TableBytes → Result Tables WrongTable
tables_of bytes = do
  types ← of_table table.Types (type_rows_of bytes.types)
  stations ← of_table table.Stations (station_rows_of bytes.stations)
  stock ← of_table table.Stock (stock_rows_of bytes.stock)
  trips ← of_table table.Trips (trip_rows_of bytes.trips)
  links ← of_table table.Links (link_rows_of bytes.links)
  weights ← of_table table.Weights (weights_row_of bytes.weights)
  Ok (record { types = types; stations = stations; stock = stock; trips = trips; links = links; weights = weights })

-- want of memory is the one refusal that no bytes give
abbrev pub is_want_of_memory : WrongTable → Bool
is_want_of_memory wrong = is_memory wrong.why

-- ---- the day of bytes

-- The bytes are not too many, are read as tables, and these make the day.
pub record IsDayOfBytes (bytes : TableBytes) (day : Day) : Type 0 where
  pub short : AreShort bytes
  pub tables : Tables
  pub read : tables_of bytes ≡ Ok tables
  pub made : day_of tables ≡ Ok day
