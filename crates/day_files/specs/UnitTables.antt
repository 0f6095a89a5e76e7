-- The tables of units: types, stations and stock, the first three that are read.
use Rattle.std.specs.Prelude.{ℕ, ◌≡◌, List, Ok}
use Rattle.rail_io.specs.Folders.{Files}
use Rattle.rail_csv.specs.declared.rows.Table.TheVariants as table
use Rattle.rail_csv.specs.Rows.{AreTypeRows, AreStationRows, AreStockRows}
use Rattle.rail_csv.specs.Tables.{station_rows_of, stock_rows_of, type_rows_of}
use Rattle.day_files.specs.declared.inputs.UnitTables.{UnitTables}
use Rattle.day_files.specs.Kept.{IsReadTable}
use Rattle.day_files.specs.Tables.{table_in}

-- their rows keep within the ranges of their columns, and are what their bytes are read as
pub record AreUnitTables (units : UnitTables) : Type 0 where
  pub types : AreTypeRows units.types.table
  pub stations : AreStationRows units.stations.table
  pub stock : AreStockRows units.stock.table
  pub types_kept : IsReadTable type_rows_of units.types
  pub stations_kept : IsReadTable station_rows_of units.stations
  pub stock_kept : IsReadTable stock_rows_of units.stock

-- the files of a folder hold these three tables
pub record AreUnitTablesIn (files : Files) (dir : List ℕ) (units : UnitTables) : Type 0 where
  pub types : table_in files dir table.Types ≡ Ok units.types.table
  pub stations : table_in files dir table.Stations ≡ Ok units.stations.table
  pub stock : table_in files dir table.Stock ≡ Ok units.stock.table
