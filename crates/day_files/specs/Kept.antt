-- Tables with the bytes that they were read from.
use Rattle.std.specs.Prelude.{ℕ, ◌≡◌, ◌≤◌, List, length, Result, Ok}
use Rattle.rail_base.specs.declared.limits.TheConstants.{MAX_TABLE_BYTES}
use Rattle.rail_csv.specs.declared.refusal.TableRefusal.{TableRefusal}
use Rattle.rail_csv.specs.declared.table_bytes.TableBytes.{TableBytes}
use Rattle.rail_csv.specs.Tables.{AreShort}
use Rattle.day_tables.specs.declared.building.tables.Tables.{Tables}
use Rattle.timetable.specs.DayTables.{tables_of}
use Rattle.day_files.specs.declared.tables.ReadTable.{ReadTable}

-- a table is what its bytes are read as, which are not too many
pub record IsReadTable {T : Type 0} (reading : List ℕ → Result T TableRefusal) (read : ReadTable T) : Type 0 where
  pub few : length read.bytes ≤ MAX_TABLE_BYTES
  pub exact : reading read.bytes ≡ Ok read.table

-- the six tables are what these bytes are read as, none of them longer than a table may be
pub record AreReadFrom (bytes : TableBytes) (tables : Tables) : Type 0 where
  pub short : AreShort bytes
  pub exact : tables_of bytes ≡ Ok tables
