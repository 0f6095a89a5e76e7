-- Tables that are read together are what their bytes are read as together.
use Rattle.std.proofs.Common.{List, refl}
use Rattle.rail_csv.specs.declared.rows.TripRow.{TripRow}
use Rattle.rail_csv.specs.declared.rows.LinkRow.{LinkRow}
use Rattle.rail_csv.specs.declared.rows.WeightsRow.{WeightsRow}
use Rattle.rail_csv.specs.Tables.{link_rows_of, trip_rows_of, weights_row_of}
use Rattle.timetable.specs.DayTables.{tables_of}
use Rattle.day_files.specs.declared.inputs.UnitTables.{UnitTables}
use Rattle.day_files.specs.declared.tables.ReadTable.{ReadTable}
use Rattle.day_files.specs.Kept.{AreReadFrom, IsReadTable}
use Rattle.day_files.specs.UnitTables.{AreUnitTables}

pub kept : (units : UnitTables) (trips : ReadTable (List TripRow)) (links : ReadTable (List LinkRow))
    (weights : ReadTable WeightsRow) → AreUnitTables units → IsReadTable trip_rows_of trips → IsReadTable link_rows_of links
    → IsReadTable weights_row_of weights
    → AreReadFrom
    (record {
      types = units.types.bytes;
      stations = units.stations.bytes;
      stock = units.stock.bytes;
      trips = trips.bytes;
      links = links.bytes;
      weights = weights.bytes;
    })
    (record {
      types = units.types.table;
      stations = units.stations.table;
      stock = units.stock.table;
      trips = trips.table;
      links = links.table;
      weights = weights.table;
    })
unfolding tables_of
kept units trips links weights are trips_kept links_kept weights_kept = record {
  short = record {
    types = are.types_kept.few;
    stations = are.stations_kept.few;
    stock = are.stock_kept.few;
    trips = trips_kept.few;
    links = links_kept.few;
    weights = weights_kept.few;
  };
  exact = rw (
    are.types_kept.exact,
    are.stations_kept.exact,
    are.stock_kept.exact,
    trips_kept.exact,
    links_kept.exact,
    weights_kept.exact,
  )
      refl;
}
