-- A table that is refused after others were read ends the reading of the six.
use Rattle.std.proofs.Common.{◌≡◌, Ok, refl}
use Rattle.rail_base.specs.Answers.{Fails}
use Rattle.rail_base.proofs.Answers.{Fails-as}
use Rattle.rail_csv.specs.declared.rows.Table.TheVariants as table
use Rattle.rail_csv.specs.declared.table_bytes.TableBytes.{TableBytes}
use Rattle.rail_csv.specs.Tables.{type_rows_of, station_rows_of, stock_rows_of, trip_rows_of, link_rows_of, weights_row_of}
use Rattle.day_tables.specs.declared.building.tables.Tables.{Tables}
use Rattle.day_tables.specs.declared.building.day_tables.WrongTable.{WrongTable}
use Rattle.day_tables.specs.DayTables.{RowsOf, is_want_of_memory, of_table, tables_of}

pub types_refuse : (bytes : TableBytes) (e : WrongTable) → Fails is_want_of_memory e (of_table table.Types (type_rows_of bytes.types)) → Fails is_want_of_memory e (tables_of bytes)
unfolding tables_of
types_refuse bytes e fails = Fails-as is_want_of_memory e (of_table table.Types (type_rows_of bytes.types)) (tables_of bytes) (λ f is. rw is refl) fails

pub stations_refuse : (bytes : TableBytes) (types : RowsOf table.Types) (e : WrongTable) → of_table table.Types (type_rows_of bytes.types) ≡ Ok types
    → Fails is_want_of_memory e (of_table table.Stations (station_rows_of bytes.stations)) → Fails is_want_of_memory e (tables_of bytes)
unfolding tables_of
stations_refuse bytes types e first fails =
    Fails-as is_want_of_memory e (of_table table.Stations (station_rows_of bytes.stations)) (tables_of bytes) (λ f is. rw (first, is) refl) fails

pub stock_refuses : (bytes : TableBytes) (types : RowsOf table.Types) (stations : RowsOf table.Stations) (e : WrongTable) → of_table table.Types (type_rows_of bytes.types) ≡ Ok types
    → of_table table.Stations (station_rows_of bytes.stations) ≡ Ok stations → Fails is_want_of_memory e (of_table table.Stock (stock_rows_of bytes.stock)) → Fails is_want_of_memory e (tables_of bytes)
unfolding tables_of
stock_refuses bytes types stations e first second fails =
    Fails-as is_want_of_memory e (of_table table.Stock (stock_rows_of bytes.stock)) (tables_of bytes) (λ f is. rw (first, second, is) refl) fails

pub trips_refuse : (bytes : TableBytes) (types : RowsOf table.Types) (stations : RowsOf table.Stations) (stock : RowsOf table.Stock) (e : WrongTable) → of_table table.Types (type_rows_of bytes.types) ≡ Ok types
    → of_table table.Stations (station_rows_of bytes.stations) ≡ Ok stations → of_table table.Stock (stock_rows_of bytes.stock) ≡ Ok stock → Fails is_want_of_memory e (of_table table.Trips (trip_rows_of bytes.trips))
    → Fails is_want_of_memory e (tables_of bytes)
unfolding tables_of
trips_refuse bytes types stations stock e first second third fails =
    Fails-as is_want_of_memory e (of_table table.Trips (trip_rows_of bytes.trips)) (tables_of bytes) (λ f is. rw (first, second, third, is) refl) fails

pub links_refuse : (bytes : TableBytes) (types : RowsOf table.Types) (stations : RowsOf table.Stations) (stock : RowsOf table.Stock) (trips : RowsOf table.Trips) (e : WrongTable)
    → of_table table.Types (type_rows_of bytes.types) ≡ Ok types → of_table table.Stations (station_rows_of bytes.stations) ≡ Ok stations → of_table table.Stock (stock_rows_of bytes.stock) ≡ Ok stock
    → of_table table.Trips (trip_rows_of bytes.trips) ≡ Ok trips → Fails is_want_of_memory e (of_table table.Links (link_rows_of bytes.links)) → Fails is_want_of_memory e (tables_of bytes)
unfolding tables_of
links_refuse bytes types stations stock trips e first second third fourth fails =
    Fails-as is_want_of_memory e (of_table table.Links (link_rows_of bytes.links)) (tables_of bytes) (λ f is. rw (first, second, third, fourth, is) refl) fails

pub weights_refuse : (bytes : TableBytes) (types : RowsOf table.Types) (stations : RowsOf table.Stations) (stock : RowsOf table.Stock) (trips : RowsOf table.Trips) (links : RowsOf table.Links)
    (e : WrongTable) → of_table table.Types (type_rows_of bytes.types) ≡ Ok types → of_table table.Stations (station_rows_of bytes.stations) ≡ Ok stations
    → of_table table.Stock (stock_rows_of bytes.stock) ≡ Ok stock → of_table table.Trips (trip_rows_of bytes.trips) ≡ Ok trips → of_table table.Links (link_rows_of bytes.links) ≡ Ok links
    → Fails is_want_of_memory e (of_table table.Weights (weights_row_of bytes.weights)) → Fails is_want_of_memory e (tables_of bytes)
unfolding tables_of
weights_refuse bytes types stations stock trips links e first second third fourth fifth fails =
    Fails-as is_want_of_memory e (of_table table.Weights (weights_row_of bytes.weights)) (tables_of bytes) (λ f is. rw (first, second, third, fourth, fifth, is) refl) fails

pub all_read : (bytes : TableBytes) (tables : Tables) → of_table table.Types (type_rows_of bytes.types) ≡ Ok tables.types → of_table table.Stations (station_rows_of bytes.stations) ≡ Ok tables.stations
    → of_table table.Stock (stock_rows_of bytes.stock) ≡ Ok tables.stock → of_table table.Trips (trip_rows_of bytes.trips) ≡ Ok tables.trips → of_table table.Links (link_rows_of bytes.links) ≡ Ok tables.links
    → of_table table.Weights (weights_row_of bytes.weights) ≡ Ok tables.weights → tables_of bytes ≡ Ok tables
unfolding tables_of
all_read bytes tables first second third fourth fifth sixth = rw (first, second, third, fourth, fifth, sixth) refl
