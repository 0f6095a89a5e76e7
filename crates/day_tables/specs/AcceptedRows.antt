-- The entries that the rows of the tables make: as a day, and as its two parts, the yards and then the trips and links.
use Rattle.std.specs.Prelude.{◌≡◌, List, Result, Ok, Err}
use Rattle.rules.specs.declared.records.UnitType.{UnitType}
use Rattle.rail_base.specs.Answers.{Fails}
use Rattle.day_tables.specs.declared.building.accepted.AcceptedRows.{AcceptedRows}
use Rattle.day_tables.specs.declared.building.accepted.TripsAndLinks.{TripsAndLinks}
use Rattle.day_tables.specs.declared.building.accepted.Yards.{Yards}
use Rattle.day_tables.specs.declared.building.refusal.InstanceRefusal.{InstanceRefusal}
use Rattle.rules.specs.declared.records.Link.{Link}
use Rattle.rules.specs.declared.records.Station.{Station}
use Rattle.rules.specs.declared.records.Stock.{Stock}
use Rattle.rules.specs.declared.records.Trip.{Trip}
use Rattle.day_tables.specs.Build.{is_memory}
use Rattle.day_tables.specs.Day.{Day}

abbrev pub day_with : AcceptedRows → Day
day_with rows = record {
  types = rows.types;
  stations = rows.stations.items;
  stock = rows.stock.items;
  trips = rows.trips.items;
  links = rows.links.items;
  weights = rows.weights;
}

-- the entries of the day that was said, or its refusal; want of memory may come anyhow
abbrev pub GivesDay : Result AcceptedRows InstanceRefusal → Result Day InstanceRefusal → Type 0
GivesDay (Ok rows) said = said ≡ Ok (day_with rows)
GivesDay (Err refusal) said = Fails is_memory refusal said

-- the types, the stations and the stock of yards
abbrev pub lists_of_yards : Yards → List UnitType × List Station × List Stock
lists_of_yards yards = (yards.types, yards.stations, yards.stock.items)

-- the yards that were said, or their refusal; want of memory may come anyhow
abbrev pub GivesYards : Result Yards InstanceRefusal
    → Result (List UnitType × List Station × List Stock) InstanceRefusal → Type 0
GivesYards (Ok yards) said = said ≡ Ok (lists_of_yards yards)
GivesYards (Err refusal) said = Fails is_memory refusal said

-- the trips and links that were said, or their refusal; want of memory may come anyhow
abbrev pub GivesTripsAndLinks : Result TripsAndLinks InstanceRefusal → Result (List Trip × List Link) InstanceRefusal
    → Type 0
GivesTripsAndLinks (Ok both) said = said ≡ Ok (both.trips.items, both.links.items)
GivesTripsAndLinks (Err refusal) said = Fails is_memory refusal said
