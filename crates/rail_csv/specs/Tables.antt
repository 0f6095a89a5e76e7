-- What a table is read as: its rows, or the first thing that is wrong in it.
use Rattle.std.specs.Prelude.{ℕ, ◌+◌, ◌≤◌, List, [], ◌∷◌, length, take, nat_le, Bool, true, false, ◌&&◌, ◌==◌, nat_lt}
use Rattle.std.specs.Prelude.{Result, Ok, Err, if◌then◌else◌, codes}
use Rattle.std.specs.List.{list_all}
use Rattle.std.specs.Str.{bytes_eq, is_utf8}
use Rattle.std.specs.Cmp.Lexicographic.{pointwise}
use Rattle.csv.specs.Reading.{default_config, strip_bom, records}
use Rattle.rail_csv.specs.declared.refusal.TableRefusal.{TableRefusal}
use Rattle.rail_csv.specs.declared.refusal.TableRefusal.TheVariants.{NotUtf8, WrongHeader, FieldCount, TooManyRows}
use Rattle.rail_csv.specs.declared.refusal.TableRefusal.TheVariants.{NoRow, NoMemory}
use Rattle.rail_csv.specs.declared.rows.TypeRow.{TypeRow}
use Rattle.rail_csv.specs.declared.rows.StationRow.{StationRow}
use Rattle.rail_csv.specs.declared.rows.StockRow.{StockRow}
use Rattle.rail_csv.specs.declared.rows.TripRow.{TripRow}
use Rattle.rail_csv.specs.declared.rows.LinkRow.{LinkRow}
use Rattle.rail_csv.specs.declared.rows.WeightsRow.{WeightsRow}
use Rattle.rail_csv.specs.declared.rows.PlanRow.{PlanRow}
use Rattle.rail_csv.specs.declared.rows.Table.{Table}
use Rattle.rail_csv.specs.declared.table_bytes.TableBytes.{TableBytes}
use Rattle.rail_csv.specs.declared.rows.Table.TheVariants.{Types, Stations, Stock, Trips, Links, Weights, Plan}
use Rattle.rail_base.specs.Answers.{◌>>=◌}
use Rattle.rail_base.specs.declared.limits.TheConstants.{MAX_TYPES, MAX_STATIONS, MAX_STOCK_ROWS, MAX_TRIPS}
use Rattle.rail_base.specs.declared.limits.TheConstants.{MAX_LINKS, MAX_WEIGHT_ROWS, MAX_PLAN_ROWS, MAX_CARRIAGES}
use Rattle.rail_base.specs.declared.limits.TheConstants.{MAX_SEATS, MAX_FIRST_SEATS, MAX_METRES, MAX_PLATFORM}
use Rattle.rail_base.specs.declared.limits.TheConstants.{MAX_REALLOCATION, MAX_STOCK, MAX_KM, MAX_DEMAND}
use Rattle.rail_base.specs.declared.limits.TheConstants.{MAX_FIRST_DEMAND, MAX_WEIGHT, MAX_TABLE_BYTES}
use Rattle.rail_csv.specs.declared.limits.TheConstants.{FEWEST_TYPE_COLUMNS, FEWEST_STATION_COLUMNS}
use Rattle.rail_csv.specs.declared.limits.TheConstants.{FEWEST_STOCK_COLUMNS, FEWEST_TRIP_COLUMNS, FEWEST_LINK_COLUMNS}
use Rattle.rail_csv.specs.declared.limits.TheConstants.{FEWEST_WEIGHT_COLUMNS, FEWEST_PLAN_COLUMNS}
use Rattle.rail_csv.specs.Columns.{field, field_or, number_column, time_column, name_column, optional_name_column}
use Rattle.rail_csv.specs.Columns.{kind_column, answer_column, end_column, units_column}

-- ---- every table

-- how the columns of a table read the fields of a row, whose number comes first
abbrev pub Columns : Type 0 → Type 0
Columns Row = ℕ → List (List ℕ) → Result Row TableRefusal

-- the records of a file: those of csv, after a byte order mark at the front
abbrev pub records_of : List ℕ → List (List (List ℕ))
records_of bytes = records default_config (strip_bom bytes)

-- The header of a version of a table: a later version has more columns at the end, so of the words of all columns a
-- header has a front, with those of the first version at least.
abbrev pub is_header : List (List ℕ) → ℕ → List (List ℕ) → Bool
is_header words fewest fields = nat_le fewest (length fields) && pointwise bytes_eq fields (take (length fields) words)

-- a row: as many fields as its version has columns, all of them UTF-8, and then each column
unfoldable pub row_of : {Row : Type 0} → ℕ → Columns Row → ℕ → List (List ℕ) → Result Row TableRefusal
row_of width columns row fields =
    if length fields == width
    then (if list_all is_utf8 fields then columns row fields else Err (NotUtf8 row))
    else Err (FieldCount row (length fields))

-- the rows from this one on, in order; one past the limit is too many
unfoldable pub rows_from : {Row : Type 0} → ℕ → ℕ → Columns Row → ℕ → List (List (List ℕ))
    → Result (List Row) TableRefusal
rows_from width limit columns row [] = Ok []
rows_from width limit columns row (fields ∷ others) = if nat_lt limit row then Err TooManyRows else do
  first ← row_of width columns row fields
  rest ← rows_from width limit columns (row + 1) others
  Ok (first ∷ rest)

-- the rows under the header, counted from 1, in the version that the header tells
unfoldable pub rows_under : {Row : Type 0} → List (List ℕ) → ℕ → ℕ → Columns Row → List (List (List ℕ))
    → Result (List Row) TableRefusal
rows_under words fewest limit columns [] = Err WrongHeader
rows_under words fewest limit columns (first ∷ others) =
    if is_header words fewest first then rows_from (length first) limit columns 1 others else Err WrongHeader

-- the rows of a table: the words of all its columns, how many of them its first version has, and the most rows
unfoldable pub table_of : {Row : Type 0} → List (List ℕ) → ℕ → ℕ → Columns Row → List ℕ → Result (List Row) TableRefusal
table_of words fewest limit columns bytes = rows_under words fewest limit columns (records_of bytes)

-- the refusal that is free
abbrev pub is_memory : TableRefusal → Bool
is_memory NoMemory = true
is_memory why = false

-- ---- the seven tables, each with the words of all its columns; a column that the first version lacks is read by
-- `field_or`

abbrev pub type_header : List (List ℕ)
type_header = codes "type" ∷ codes "carriages" ∷ codes "seats" ∷ codes "metres" ∷ codes "family" ∷ codes "first" ∷ []

unfoldable pub type_columns : Columns TypeRow
type_columns row fields = do
  name ← name_column row 0 (field fields 0)
  carriages ← number_column 1 MAX_CARRIAGES row 1 (field fields 1)
  seats ← number_column 1 MAX_SEATS row 2 (field fields 2)
  metres ← number_column 1 MAX_METRES row 3 (field fields 3)
  family ← name_column row 4 (field fields 4)
  first ← number_column 0 MAX_FIRST_SEATS row 5 (field_or (codes "0") fields 5)
  Ok (record { name = name; carriages = carriages; seats = seats; metres = metres; family = family; first = first })

unfoldable pub type_rows_of : List ℕ → Result (List TypeRow) TableRefusal
type_rows_of bytes = table_of type_header FEWEST_TYPE_COLUMNS MAX_TYPES type_columns bytes

abbrev pub station_header : List (List ℕ)
station_header = codes "station" ∷ codes "platform" ∷ codes "reallocation" ∷ []

unfoldable pub station_columns : Columns StationRow
station_columns row fields = do
  name ← name_column row 0 (field fields 0)
  platform ← number_column 1 MAX_PLATFORM row 1 (field fields 1)
  reallocation ← number_column 0 MAX_REALLOCATION row 2 (field fields 2)
  Ok (record { name = name; platform = platform; reallocation = reallocation })

unfoldable pub station_rows_of : List ℕ → Result (List StationRow) TableRefusal
station_rows_of bytes = table_of station_header FEWEST_STATION_COLUMNS MAX_STATIONS station_columns bytes

abbrev pub stock_header : List (List ℕ)
stock_header = codes "station" ∷ codes "type" ∷ codes "start" ∷ codes "end" ∷ []

unfoldable pub stock_columns : Columns StockRow
stock_columns row fields = do
  station ← name_column row 0 (field fields 0)
  unit_type ← name_column row 1 (field fields 1)
  start ← number_column 0 MAX_STOCK row 2 (field fields 2)
  end ← number_column 0 MAX_STOCK row 3 (field fields 3)
  Ok (record { station = station; unit_type = unit_type; start = start; end = end })

unfoldable pub stock_rows_of : List ℕ → Result (List StockRow) TableRefusal
stock_rows_of bytes = table_of stock_header FEWEST_STOCK_COLUMNS MAX_STOCK_ROWS stock_columns bytes

abbrev pub trip_header : List (List ℕ)
trip_header =
    codes "trip" ∷ codes "from" ∷ codes "departure" ∷ codes "to" ∷ codes "arrival" ∷ codes "km" ∷ codes "demand"
    ∷ codes "first" ∷ []

unfoldable pub trip_columns : Columns TripRow
trip_columns row fields = do
  name ← name_column row 0 (field fields 0)
  from ← name_column row 1 (field fields 1)
  departure ← time_column row 2 (field fields 2)
  to ← name_column row 3 (field fields 3)
  arrival ← time_column row 4 (field fields 4)
  km ← number_column 1 MAX_KM row 5 (field fields 5)
  demand ← number_column 0 MAX_DEMAND row 6 (field fields 6)
  first ← number_column 0 MAX_FIRST_DEMAND row 7 (field_or (codes "0") fields 7)
  Ok (record {
    name = name;
    from = from;
    departure = departure;
    to = to;
    arrival = arrival;
    km = km;
    demand = demand;
    first = first;
  })

unfoldable pub trip_rows_of : List ℕ → Result (List TripRow) TableRefusal
trip_rows_of bytes = table_of trip_header FEWEST_TRIP_COLUMNS MAX_TRIPS trip_columns bytes

abbrev pub link_header : List (List ℕ)
link_header =
    codes "kind" ∷ codes "arriving" ∷ codes "arriving2" ∷ codes "departing" ∷ codes "departing2" ∷ codes "reverse"
    ∷ codes "uncouple" ∷ codes "couple" ∷ codes "exchange" ∷ []

unfoldable pub link_columns : Columns LinkRow
link_columns row fields = do
  kind ← kind_column row 0 (field fields 0)
  arriving ← name_column row 1 (field fields 1)
  arriving2 ← optional_name_column row 2 (field fields 2)
  departing ← name_column row 3 (field fields 3)
  departing2 ← optional_name_column row 4 (field fields 4)
  reverse ← answer_column row 5 (field fields 5)
  uncouple ← end_column row 6 (field fields 6)
  couple ← end_column row 7 (field fields 7)
  exchange ← answer_column row 8 (field_or (codes "no") fields 8)
  Ok (record {
    kind = kind;
    arriving = arriving;
    arriving2 = arriving2;
    departing = departing;
    departing2 = departing2;
    reverse = reverse;
    uncouple = uncouple;
    couple = couple;
    exchange = exchange;
  })

unfoldable pub link_rows_of : List ℕ → Result (List LinkRow) TableRefusal
link_rows_of bytes = table_of link_header FEWEST_LINK_COLUMNS MAX_LINKS link_columns bytes

abbrev pub weight_header : List (List ℕ)
weight_header = codes "carriage" ∷ codes "shortage" ∷ codes "shunting" ∷ []

unfoldable pub weight_columns : Columns WeightsRow
weight_columns row fields = do
  carriage ← number_column 0 MAX_WEIGHT row 0 (field fields 0)
  shortage ← number_column 0 MAX_WEIGHT row 1 (field fields 1)
  shunting ← number_column 0 MAX_WEIGHT row 2 (field fields 2)
  Ok (record { carriage = carriage; shortage = shortage; shunting = shunting })

-- the one row of a table
abbrev pub the_row : {Row : Type 0} → List Row → Result Row TableRefusal
the_row [] = Err NoRow
the_row (row ∷ others) = Ok row

unfoldable pub weights_row_of : List ℕ → Result WeightsRow TableRefusal
weights_row_of bytes = do
  rows ← table_of weight_header FEWEST_WEIGHT_COLUMNS MAX_WEIGHT_ROWS weight_columns bytes
  the_row rows

abbrev pub plan_header : List (List ℕ)
plan_header = codes "trip" ∷ codes "units" ∷ []

unfoldable pub plan_columns : Columns PlanRow
plan_columns row fields = do
  trip ← name_column row 0 (field fields 0)
  units ← units_column row 1 (field fields 1)
  Ok (record { trip = trip; units = units })

unfoldable pub plan_rows_of : List ℕ → Result (List PlanRow) TableRefusal
plan_rows_of bytes = table_of plan_header FEWEST_PLAN_COLUMNS MAX_PLAN_ROWS plan_columns bytes

-- the bytes of the six tables of a day, none of them longer than a table may be
pub record AreShort (tables : TableBytes) : Type 0 where
  pub types : length tables.types ≤ MAX_TABLE_BYTES
  pub stations : length tables.stations ≤ MAX_TABLE_BYTES
  pub stock : length tables.stock ≤ MAX_TABLE_BYTES
  pub trips : length tables.trips ≤ MAX_TABLE_BYTES
  pub links : length tables.links ≤ MAX_TABLE_BYTES
  pub weights : length tables.weights ≤ MAX_TABLE_BYTES

-- ---- the columns of any table

-- the header of the last version of a table
abbrev pub header_of : Table → List (List ℕ)
header_of Types = type_header
header_of Stations = station_header
header_of Stock = stock_header
header_of Trips = trip_header
header_of Links = link_header
header_of Weights = weight_header
header_of Plan = plan_header

-- the header word of a column, counted from 0; nothing where the table has no such column
abbrev pub column_name : Table → ℕ → List ℕ
column_name table column = field (header_of table) column
