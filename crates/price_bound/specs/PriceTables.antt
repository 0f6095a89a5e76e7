-- Tables of prices under multipliers, and how each multiplier is added to them.
use Rattle.std.specs.Prelude.{ℕ, ◌≡◌, ◌<◌, List, [], map, length, get_or, option_map, unwrap_or, slice_get, ℤ, pos}
use Rattle.std.specs.Prelude.{false, true}
use Rattle.timetable.specs.declared.day.indices.Place.{Place}
use Rattle.timetable.specs.declared.day.indices.Place.TheVariants.{Lambda, Mu, Sigma}
use Rattle.timetable.specs.declared.day.records.Handover.{Handover}
use Rattle.timetable.specs.Compositions.{compositions_of}
use Rattle.timetable.specs.Day.{Day, leaves, from_of, to_of, ready_at}
use Rattle.timetable.specs.Handovers.{handovers_of}
use Rattle.timetable.specs.Indices.{places_of}
use Rattle.timetable.specs.Minutes.{minutes_of}
use Rattle.inventory.specs.CountTable.{changed, changed_in}
use Rattle.inventory.specs.Counted.{HasPlaces}
use Rattle.branch_tree.specs.declared.multipliers.Entry.{Entry}
use Rattle.price_bound.specs.declared.price_tables.PriceTables.{PriceTables}
use Rattle.price_bound.specs.EdgeValues.{part_multiplier}
use Rattle.price_bound.specs.Regrouped.{second_price}
use Rattle.price_bound.specs.YardPrices.{yard_price}
use Rattle.price_bound.specs.YardTables.{ArePlaces, amounts_at, given_at, taken_at}

-- a table of amounts: one for each row and column
abbrev pub amount_at : List (List ℤ) → ℕ → ℕ → ℤ
amount_at table row column = get_or (get_or table row []) column (pos 0)

-- the multiplier of a hand-over and a composition, at the second trip and at the link
abbrev pub with_handover : Handover → ℕ → ℤ → PriceTables → PriceTables
with_handover handover comp value tables = record tables {
  seconds = changed_in handover.second comp value tables.seconds;
  parts = changed_in handover.link comp value tables.parts;
  has_handovers = true;
}

-- the tables after a multiplier is added, by what it belongs to: that of a station and type at its departure minute, or
-- after all minutes
abbrev pub with_place : Day → Place → ℤ → PriceTables → PriceTables
with_place day (Lambda s m k) value tables = record tables { yards = changed s m k value tables.yards }
with_place day (Mu s m) value tables =
    record tables { yards = changed s m (length (minutes_of day s)) value tables.yards }
with_place day (Sigma h c) value tables =
    unwrap_or (option_map (λ handover. with_handover handover c value tables) (slice_get (handovers_of day) h)) tables

abbrev pub with_entry : Day → PriceTables → Entry → PriceTables
with_entry day tables entry =
    unwrap_or (option_map (λ place. with_place day place entry.value tables)
    (slice_get (places_of day) entry.index)) tables

-- each amount is 0
abbrev pub cleared_table : List (List ℤ) → List (List ℤ)
cleared_table table = map (map (λ _. pos 0)) table

-- no multiplier of a hand-over is added yet
abbrev pub without_handovers : PriceTables → PriceTables
without_handovers tables = record tables {
  seconds = cleared_table tables.seconds;
  parts = cleared_table tables.parts;
  has_handovers = false;
}

-- nothing is added yet
abbrev pub cleared : PriceTables → PriceTables
cleared tables = without_handovers (record tables { yards = map cleared_table tables.yards })

-- trips look up their prices in those of the yards
abbrev pub looked_up : PriceTables → PriceTables
looked_up tables = record tables {
  takes = map (amounts_at tables.yards) tables.taken_at.items;
  gives = map (amounts_at tables.yards) tables.given_at.items;
}

-- a table has so many rows of so many columns
pub record HasSize (rows columns : ℕ) (table : List (List ℤ)) : Type 0 where
  pub height : length table ≡ rows
  pub widths : (row : ℕ) → row < rows → length (get_or table row []) ≡ columns

-- the tables have the sizes of a day, and the places of trips are found; where no multiplier of a hand-over is added,
-- the amounts at hand-overs are 0
pub record AreSized (day : Day) (tables : PriceTables) : Type 0 where
  pub takes : HasSize (length day.trips) (length day.types) tables.takes
  pub gives : HasSize (length day.trips) (length day.types) tables.gives
  pub seconds : HasSize (length day.trips) (length (compositions_of day)) tables.seconds
  pub parts : HasSize (length day.links) (length (compositions_of day)) tables.parts
  pub clear_seconds : tables.has_handovers ≡ false → cleared_table tables.seconds ≡ tables.seconds
  pub clear_parts : tables.has_handovers ≡ false → cleared_table tables.parts ≡ tables.parts
  pub yards : HasPlaces day tables.yards
  pub taken_at : ArePlaces day (taken_at day) tables.taken_at.items
  pub given_at : ArePlaces day (given_at day) tables.given_at.items

-- and they are the prices under these multipliers
pub record ArePrices (day : Day) (entries : List Entry) (tables : PriceTables) : Type 0 where
  pub sized : AreSized day tables
  pub takes : (t m : ℕ) → t < length day.trips → m < length day.types
      → amount_at tables.takes t m ≡ yard_price day entries (from_of day t) (leaves day t) m
  pub gives : (t m : ℕ) → t < length day.trips → m < length day.types
      → amount_at tables.gives t m ≡ yard_price day entries (to_of day t) (ready_at day t) m
  pub seconds : (t c : ℕ) → t < length day.trips → c < length (compositions_of day)
      → amount_at tables.seconds t c ≡ second_price day entries t c
  pub parts : (l c : ℕ) → l < length day.links → c < length (compositions_of day)
      → amount_at tables.parts l c ≡ part_multiplier day entries l c
