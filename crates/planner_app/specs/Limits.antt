-- The numbers that tables, files and answers are held to, each as it is. Clauses call them by their names. Those of
-- words are in `commands`.
use Rattle.std.specs.Prelude.{◌≡◌}
use Rattle.rail_base.specs.declared.limits.TheConstants.{MAX_CHANGE, MAX_FILE_BYTES, MAX_NAME_BYTES, MAX_SLACKS}
use Rattle.rail_base.specs.declared.limits.TheConstants.{MAX_TABLE_BYTES, MAX_LINKS, MAX_PLAN_ROWS, MAX_STATIONS}
use Rattle.rail_base.specs.declared.limits.TheConstants.{MAX_STOCK_ROWS, MAX_TRIPS, MAX_TYPES, MAX_WEIGHT_ROWS}
use Rattle.rail_base.specs.declared.limits.TheConstants.{MAX_CARRIAGES, MAX_FIRST_SEATS, MAX_METRES, MAX_PLATFORM}
use Rattle.rail_base.specs.declared.limits.TheConstants.{MAX_REALLOCATION, MAX_SEATS, MAX_STOCK, MAX_DEMAND}
use Rattle.rail_base.specs.declared.limits.TheConstants.{MAX_FIRST_DEMAND, MAX_KM, MAX_MINUTES, MAX_WEIGHT}
use Rattle.rail_base.specs.declared.limits.TheConstants.{MAX_COMPOSITION_UNITS, MAX_COMPOSITIONS, MAX_EXCHANGED}
use Rattle.rail_base.specs.declared.limits.TheConstants.{MAX_HANDOVERS, MAX_UNITS, MAX_ENTRIES, MAX_MULTIPLIER}
use Rattle.rail_base.specs.declared.limits.TheConstants.{MAX_NODES}
use Rattle.rail_csv.specs.declared.limits.TheConstants.{LAST_HOUR, LAST_MINUTE_OF_AN_HOUR, MINUTES_OF_AN_HOUR}
use Rattle.rail_csv.specs.declared.limits.TheConstants.{MAX_NUMBER_DIGITS, MAX_VALUE_BYTES}
use Rattle.rail_csv.specs.declared.limits.TheConstants.{FEWEST_TYPE_COLUMNS, FEWEST_STATION_COLUMNS}
use Rattle.rail_csv.specs.declared.limits.TheConstants.{FEWEST_STOCK_COLUMNS, FEWEST_TRIP_COLUMNS, FEWEST_LINK_COLUMNS}
use Rattle.rail_csv.specs.declared.limits.TheConstants.{FEWEST_WEIGHT_COLUMNS, FEWEST_PLAN_COLUMNS}
use Rattle.price_bound.specs.declared.sizes.TheConstants.{MAX_PRICED_VALUE}
use Rattle.answer_text.specs.declared.limits.TheConstants.{MAX_AMOUNT, MAX_ANSWER_DIGITS, MAX_INDEX}

-- the rows of each table
pub record AreRowLimits : Type 0 where
  pub types : MAX_TYPES ≡ 6
  pub stations : MAX_STATIONS ≡ 60
  pub stock : MAX_STOCK_ROWS ≡ 360
  pub trips : MAX_TRIPS ≡ 400
  pub links : MAX_LINKS ≡ 400
  pub weights : MAX_WEIGHT_ROWS ≡ 1
  pub plan : MAX_PLAN_ROWS ≡ 400

-- the columns of the first version of each table, which are the fewest that a header may have
pub record AreHeaderLimits : Type 0 where
  pub types : FEWEST_TYPE_COLUMNS ≡ 5
  pub stations : FEWEST_STATION_COLUMNS ≡ 3
  pub stock : FEWEST_STOCK_COLUMNS ≡ 4
  pub trips : FEWEST_TRIP_COLUMNS ≡ 7
  pub links : FEWEST_LINK_COLUMNS ≡ 8
  pub weights : FEWEST_WEIGHT_COLUMNS ≡ 3
  pub plan : FEWEST_PLAN_COLUMNS ≡ 2

-- the digits of a number, the bytes of a text whose digits are summed up, and the hours and minutes of a time
pub record AreFieldLimits : Type 0 where
  pub digits : MAX_NUMBER_DIGITS ≡ 9
  pub value_bytes : MAX_VALUE_BYTES ≡ 10
  pub hour : LAST_HOUR ≡ 47
  pub minute : LAST_MINUTE_OF_AN_HOUR ≡ 59
  pub hour_minutes : MINUTES_OF_AN_HOUR ≡ 60

-- the columns of the tables
pub record AreColumnLimits : Type 0 where
  pub name_bytes : MAX_NAME_BYTES ≡ 64
  pub carriages : MAX_CARRIAGES ≡ 20
  pub seats : MAX_SEATS ≡ 2000
  pub first_seats : MAX_FIRST_SEATS ≡ 2000
  pub metres : MAX_METRES ≡ 500
  pub platform : MAX_PLATFORM ≡ 1000
  pub reallocation : MAX_REALLOCATION ≡ 600
  pub stock : MAX_STOCK ≡ 2000
  pub minutes : MAX_MINUTES ≡ 2880
  pub km : MAX_KM ≡ 1000
  pub demand : MAX_DEMAND ≡ 10000
  pub first_demand : MAX_FIRST_DEMAND ≡ 10000
  pub weight : MAX_WEIGHT ≡ 10000

-- a day
pub record AreDayLimits : Type 0 where
  pub units : MAX_UNITS ≡ 2000
  pub compositions : MAX_COMPOSITIONS ≡ 1000
  pub composition : MAX_COMPOSITION_UNITS ≡ 6
  pub exchanged : MAX_EXCHANGED ≡ 2
  pub handovers : MAX_HANDOVERS ≡ 266

-- files, answers, and what bounds are asked for
pub record AreRunLimits : Type 0 where
  pub table_bytes : MAX_TABLE_BYTES ≡ 4194304
  pub file_bytes : MAX_FILE_BYTES ≡ 134217728
  pub nodes : MAX_NODES ≡ 8001
  pub entries : MAX_ENTRIES ≡ 1000
  pub multiplier : MAX_MULTIPLIER ≡ 1000000000000
  pub slacks : MAX_SLACKS ≡ 4000
  pub change : MAX_CHANGE ≡ 1000000
  pub answer_digits : MAX_ANSWER_DIGITS ≡ 21
  pub index : MAX_INDEX ≡ 999999
  pub amount : MAX_AMOUNT ≡ 100000000000000000000
  pub value : MAX_PRICED_VALUE ≡ 100000000000000000000
