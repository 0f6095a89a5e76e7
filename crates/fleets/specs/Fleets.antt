-- Fleets: how many units of each type stand at each station as the day begins, and again as it ends; and the day with
-- the units of a fleet in place of its stock. A fleet is the list of these numbers, by station and then type.
use Rattle.std.specs.Prelude.{ℕ, ◌≡◌, ◌+◌, ◌*◌, ◌/◌, ◌%◌, ◌≤◌, List, [], ◌∷◌, length, option_map, unwrap_or, slice_get}
use Rattle.std.specs.List.{AllZip}
use Rattle.rail_base.specs.declared.limits.TheConstants.{MAX_UNITS}
use Rattle.rail_csv.specs.declared.rows.StockRow.{StockRow}
use Rattle.day_tables.specs.declared.building.tables.Tables.{Tables}
use Rattle.rules.specs.declared.records.Stock.{Stock}
use Rattle.timetable.specs.Day.{Day}
use Rattle.timetable.specs.DerivedDays.{with_stock}
use Rattle.timetable.specs.Lists.{listed}
use Rattle.timetable.specs.Starts.{start_of}

-- ---- fleets of a day

-- all units of a fleet
abbrev pub fleet_size : List ℕ → ℕ
fleet_size [] = 0
fleet_size (units ∷ fleet) = units + fleet_size fleet

-- The day can be made with the fleet: it has one number for each station and type of the day, and no more units in all
-- than a day may have. Whether the day's own stock has so many does not matter here.
pub record FitsDay (day : Day) (fleet : List ℕ) : Type 0 where
  pub each : length fleet ≡ length day.stations * length day.types
  pub few : fleet_size fleet ≤ MAX_UNITS

-- nowhere has the one more units of a type than the other
abbrev pub IsNowhereAbove : List ℕ → List ℕ → Type 0
IsNowhereAbove small large = AllZip (λ a b. a ≤ b) small large

-- how many units the day's own stock has at the start, at the station and of the type of a place
abbrev pub start_at : Day → ℕ → ℕ
start_at day place = start_of day (place / length day.types) (place % length day.types)

-- the units of the day's own stock, as a fleet
abbrev pub own_fleet : Day → List ℕ
own_fleet day = listed (start_at day) (length day.stations * length day.types)

-- A fleet of the day: nowhere has it more units of a type than the day's stock at its start.
abbrev pub IsFleetOf : Day → List ℕ → Type 0
IsFleetOf day fleet = IsNowhereAbove fleet (own_fleet day)

-- ---- the day with a fleet

-- the stock of a fleet from a place on, where there are so many types
abbrev pub stock_from : ℕ → ℕ → List ℕ → List Stock
stock_from types place [] = []
stock_from types place (units ∷ fleet) =
    record { station = place / types; unit_type = place % types; start = units; end = units }
    ∷ stock_from types (place + 1) fleet

-- The day with the units of a fleet in place of its stock: each station begins it with them, and is to end it with as
-- many of each type. All else is as on the day.
abbrev pub with_fleet : List ℕ → Day → Day
with_fleet fleet day = with_stock (stock_from (length day.types) 0 fleet) day

-- ---- its tables

-- the name of an entry
abbrev pub name_at : {X : Type 0} → (X → List ℕ) → List X → ℕ → List ℕ
name_at name_of entries place = unwrap_or (option_map name_of (slice_get entries place)) []

-- the stock row of a place, with so many units at the start and at the end
abbrev pub row_in : Day → ℕ → ℕ → StockRow
row_in day place units =
    record {
      station = name_at (λ s. s.name) day.stations (place / length day.types);
      unit_type = name_at (λ t. t.name) day.types (place % length day.types);
      start = units;
      end = units;
    }

-- those of a fleet from a place on
abbrev pub rows_from : Day → ℕ → List ℕ → List StockRow
rows_from day place [] = []
rows_from day place (units ∷ fleet) = row_in day place units ∷ rows_from day (place + 1) fleet

-- tables with these rows as their stock
abbrev pub tables_with : Day → List ℕ → Tables → Tables
tables_with day fleet tables = record tables { stock = rows_from day 0 fleet }
