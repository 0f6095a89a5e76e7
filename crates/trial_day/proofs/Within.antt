-- The rows of the tables of a trial day are within the limits of their tables.
use Rattle.std.proofs.Common.{ℕ, suc, ◌+◌, ◌*◌, ◌/◌, ◌<◌, ◌≤◌, refl, arith}
use Rattle.std.specs.Prelude.{codes}
use Rattle.std.proofs.Math.Nat.{div-le_of_le-mul, mod-lt}
use Rattle.std.proofs.lemmas.List.Elements.{All-from_recursion}
use Rattle.rail_base.specs.Names.{is_name}
use Rattle.rail_csv.specs.Rows.{IsTypeRow, IsStationRow, IsStockRow, IsTripRow, IsLinkRow, IsWeightsRow, AreTypeRows}
use Rattle.rail_csv.specs.Rows.{AreStationRows, AreStockRows, AreTripRows, AreLinkRows}
use Rattle.timetable.specs.DayTables.{AreTables}
use Rattle.trial_day.specs.Draws.{drawn, state_after}
use Rattle.trial_day.specs.Trial.{type_a, type_b, trial_types, station_x, station_y, trial_stations, stock_at_x}
use Rattle.trial_day.specs.Trial.{trial_stock, trial_weights, drawn_out, drawn_back, turn_row, trial_trips, trial_links}
use Rattle.trial_day.specs.Trial.{trial_tables_of}
use Rattle.trial_day.proofs.Names.{out_is_name, back_is_name}
use Rattle.trial_day.proofs.Passing.{all_listed, all_paired, length-pairs}
use Rattle.timetable.proofs.Listing.{length-listed}

-- half of the trips
pub pairs_few : (trips : ℕ) → trips ≤ 400 → trips / 2 ≤ 200
pairs_few trips few = div-le_of_le-mul 2 (omega arith)

drawn_small : (seed draws : ℕ) → drawn seed draws 400 < 400
drawn_small seed draws = mod-lt (state_after seed (suc draws) / 65536) (omega arith)

out_within : (seed pair : ℕ) → pair < 200 → IsTripRow (drawn_out seed pair)
unfolding is_name
out_within seed pair small = let less = drawn_small seed (2 * pair) in record {
  name = out_is_name pair (omega arith);
  from = refl;
  departure = omega arith;
  to = refl;
  arrival = omega arith;
  km = (omega arith, omega arith);
  demand = (omega arith, omega arith);
  first = (omega arith, omega arith);
}

back_within : (seed pair : ℕ) → pair < 200 → IsTripRow (drawn_back seed pair)
unfolding is_name
back_within seed pair small = let less = drawn_small seed (2 * pair + 1) in record {
  name = back_is_name pair (omega arith);
  from = refl;
  departure = omega arith;
  to = refl;
  arrival = omega arith;
  km = (omega arith, omega arith);
  demand = (omega arith, omega arith);
  first = (omega arith, omega arith);
}

types_within : AreTypeRows trial_types
unfolding is_name
types_within =
    let a : IsTypeRow type_a = record { name = refl; carriages = (omega arith, omega arith); seats = (omega arith, omega arith); metres = (omega arith, omega arith); family = refl; first = (omega arith, omega arith) } in
    let b : IsTypeRow type_b = record { name = refl; carriages = (omega arith, omega arith); seats = (omega arith, omega arith); metres = (omega arith, omega arith); family = refl; first = (omega arith, omega arith) } in
    record { few = omega arith; each = All-from_recursion (λ row. IsTypeRow row) trial_types (a, (b, tt)) }

stations_within : AreStationRows trial_stations
unfolding is_name
stations_within =
    let x : IsStationRow station_x = record { name = refl; platform = (omega arith, omega arith); reallocation = (omega arith, omega arith) } in
    let y : IsStationRow station_y = record { name = refl; platform = (omega arith, omega arith); reallocation = (omega arith, omega arith) } in
    record { few = omega arith; each = All-from_recursion (λ row. IsStationRow row) trial_stations (x, (y, tt)) }

stock_within : (trips : ℕ) → trips ≤ 400 → AreStockRows (trial_stock trips)
unfolding is_name
stock_within trips few =
    let half = pairs_few trips few in
    let a : IsStockRow (stock_at_x (codes "A") trips) = record { station = refl; unit_type = refl; start = (omega arith, omega arith); end = (omega arith, omega arith) } in
    let b : IsStockRow (stock_at_x (codes "B") (trips / 2)) = record { station = refl; unit_type = refl; start = (omega arith, omega arith); end = (omega arith, omega arith) } in
    record { few = omega arith; each = All-from_recursion (λ row. IsStockRow row) (trial_stock trips) (a, (b, tt)) }

trips_within : (seed trips : ℕ) → trips ≤ 400 → AreTripRows (trial_trips seed (trips / 2))
trips_within seed trips few = let half = pairs_few trips few in record {
  few = (let count = length-pairs (drawn_out seed) (drawn_back seed) (trips / 2) in omega (arith, count));
  each = all_paired (λ row. IsTripRow row) (drawn_out seed) (drawn_back seed) (trips / 2) (λ k below. out_within seed k (omega arith)) (λ k below. back_within seed k (omega arith));
}

turn_within : (pair : ℕ) → pair < 200 → IsLinkRow (turn_row pair)
turn_within pair small = record { arriving = out_is_name pair (omega arith); arriving2 = tt; departing = back_is_name pair (omega arith); departing2 = tt }

links_within : (trips : ℕ) → trips ≤ 400 → AreLinkRows (trial_links (trips / 2))
links_within trips few = let half = pairs_few trips few in record {
  few = omega (arith, length-listed turn_row (trips / 2));
  each = all_listed (λ row. IsLinkRow row) turn_row (trips / 2) (λ k below. turn_within k (omega arith));
}

weights_within : IsWeightsRow trial_weights
weights_within = record { carriage = (omega arith, omega arith); shortage = (omega arith, omega arith); shunting = (omega arith, omega arith) }

pub tables_within : (seed trips : ℕ) → trips ≤ 400 → AreTables (trial_tables_of seed trips)
unfolding trial_tables_of
tables_within seed trips few = record {
  types = types_within;
  stations = stations_within;
  stock = stock_within trips few;
  trips = trips_within seed trips few;
  links = links_within trips few;
  weights = weights_within;
}
