-- The tables of the trial day of a seed and a number of trips: trains go out from X to Y, turn there and come back.
use Rattle.std.specs.Prelude.{ℕ, ◌≡◌, ◌≤◌, ◌+◌, ◌*◌, ◌/◌, ◌%◌, List, [], ◌∷◌, ◌++◌, true, false, None, codes}
use Rattle.std.specs.Fmt.{decimal}
use Rattle.rail_base.specs.declared.limits.TheConstants.{MAX_TRIPS}
use Rattle.rules.specs.declared.records.End.TheVariants as at
use Rattle.rail_csv.specs.declared.rows.KindWord.TheVariants as words
use Rattle.rail_csv.specs.declared.rows.LinkRow.{LinkRow}
use Rattle.rail_csv.specs.declared.rows.StationRow.{StationRow}
use Rattle.rail_csv.specs.declared.rows.StockRow.{StockRow}
use Rattle.rail_csv.specs.declared.rows.TripRow.{TripRow}
use Rattle.rail_csv.specs.declared.rows.TypeRow.{TypeRow}
use Rattle.rail_csv.specs.declared.rows.WeightsRow.{WeightsRow}
use Rattle.day_tables.specs.declared.building.tables.Tables.{Tables}
use Rattle.timetable.specs.Lists.{listed, joined}
use Rattle.trial_day.specs.Draws.{drawn}

-- the numbers of trips that a trial day may have
pub record IsTrialSize (trips : ℕ) : Type 0 where
  pub even : trips % 2 ≡ 0
  pub some : 2 ≤ trips
  pub few : trips ≤ MAX_TRIPS

-- ---- types, stations, stock and weights

abbrev pub type_a : TypeRow
type_a = record { name = codes "A"; carriages = 3; seats = 200; metres = 80; family = codes "regional"; first = 0 }

abbrev pub type_b : TypeRow
type_b = record { name = codes "B"; carriages = 2; seats = 120; metres = 60; family = codes "regional"; first = 0 }

abbrev pub trial_types : List TypeRow
trial_types = type_a ∷ type_b ∷ []

abbrev pub station_x : StationRow
station_x = record { name = codes "X"; platform = 240; reallocation = 15 }

abbrev pub station_y : StationRow
station_y = record { name = codes "Y"; platform = 240; reallocation = 15 }

abbrev pub trial_stations : List StationRow
trial_stations = station_x ∷ station_y ∷ []

-- so many units of a type at X, at the start and at the end
abbrev pub stock_at_x : List ℕ → ℕ → StockRow
stock_at_x unit_type units = record { station = codes "X"; unit_type = unit_type; start = units; end = units }

-- as many units of A as trips, and half as many of B
abbrev pub trial_stock : ℕ → List StockRow
trial_stock trips = stock_at_x (codes "A") trips ∷ stock_at_x (codes "B") (trips / 2) ∷ []

abbrev pub trial_weights : WeightsRow
trial_weights = record { carriage = 1; shortage = 1; shunting = 60 }

-- ---- pairs of trips, counted from 0: one from X to Y, and one back

-- the names of the two trips of a pair
abbrev pub out_name : ℕ → List ℕ
out_name pair = codes "F" ++ decimal pair

abbrev pub back_name : ℕ → List ℕ
back_name pair = codes "R" ++ decimal pair

-- the minute at which a pair begins: 50 minutes out, 10 minutes at Y, and 50 minutes back
abbrev pub begin_minute : ℕ → ℕ
begin_minute pair = 300 + 6 * pair

-- of a pair with this demand: the trip out, and the trip back
abbrev pub out_row : ℕ → ℕ → TripRow
out_row pair demand = record {
  name = out_name pair;
  from = codes "X";
  departure = begin_minute pair;
  to = codes "Y";
  arrival = begin_minute pair + 50;
  km = 40;
  demand = demand;
  first = 0;
}

abbrev pub back_row : ℕ → ℕ → TripRow
back_row pair demand = record {
  name = back_name pair;
  from = codes "Y";
  departure = begin_minute pair + 60;
  to = codes "X";
  arrival = begin_minute pair + 110;
  km = 40;
  demand = demand;
  first = 0;
}

-- the seats that are wanted on the trip before which so many numbers were drawn
abbrev pub demand_after : ℕ → ℕ → ℕ
demand_after seed draws = 100 + drawn seed draws 400

-- each trip draws one number, the trip out before the trip back
abbrev pub drawn_out : ℕ → ℕ → TripRow
drawn_out seed pair = out_row pair (demand_after seed (2 * pair))

abbrev pub drawn_back : ℕ → ℕ → TripRow
drawn_back seed pair = back_row pair (demand_after seed (2 * pair + 1))

abbrev pub pair_rows : ℕ → ℕ → List TripRow
pair_rows seed pair = drawn_out seed pair ∷ drawn_back seed pair ∷ []

-- the turn between the two trips of a pair
abbrev pub turn_row : ℕ → LinkRow
turn_row pair = record {
  kind = words.Turn;
  arriving = out_name pair;
  arriving2 = None;
  departing = back_name pair;
  departing2 = None;
  reverse = true;
  uncouple = at.Rear;
  couple = at.Rear;
  exchange = false;
}

-- ---- the tables

abbrev pub trial_trips : ℕ → ℕ → List TripRow
trial_trips seed pairs = joined (pair_rows seed) pairs

abbrev pub trial_links : ℕ → List LinkRow
trial_links pairs = listed turn_row pairs

unfoldable pub trial_tables_of : ℕ → ℕ → Tables
trial_tables_of seed trips = record {
  types = trial_types;
  stations = trial_stations;
  stock = trial_stock trips;
  trips = trial_trips seed (trips / 2);
  links = trial_links (trips / 2);
  weights = trial_weights;
}
