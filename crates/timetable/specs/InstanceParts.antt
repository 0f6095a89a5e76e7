-- What an instance holds: the parts of a day, its units as one list, its catalogue, the links by trip, its chains
-- and hand-overs, and the departure minutes by station.
use Rattle.std.specs.Prelude.{◌≡◌, ◌≤◌, length}
use Rattle.rail_base.specs.declared.limits.TheConstants.{MAX_COMPOSITIONS}
use Rattle.compositions.specs.Catalogue.{catalogue_of}
use Rattle.day_tables.specs.declared.building.accepted.AcceptedRows.{AcceptedRows}
use Rattle.timetable.specs.declared.day.instance.Instance.TheInside.{Inside}
use Rattle.timetable.specs.declared.day.instance.InstanceParts.{InstanceParts}
use Rattle.timetable.specs.AcceptedRows.{day_with}
use Rattle.timetable.specs.Day.{Day, units_of}
use Rattle.timetable.specs.Accepted.{IsDay, AreLinks, DoMeet, IsStocked, HaveCompositions, HaveNames}
use Rattle.timetable.specs.Chains.{chains_of}
use Rattle.timetable.specs.Compositions.{greatest_in}
use Rattle.timetable.specs.Handovers.{handovers_of}
use Rattle.timetable.specs.Links.{arriving_in, departing_in}
use Rattle.timetable.specs.LinkTables.{link_table}
use Rattle.timetable.specs.Lists.{listed}
use Rattle.timetable.specs.Minutes.{minutes_of}
use Rattle.timetable.specs.Within.{IsDayWithin}

abbrev pub day_in : Inside → Day
day_in a = record {
  types = a.types;
  stations = a.stations.items;
  stock = a.stock.items;
  trips = a.trips.items;
  links = a.links.items;
  weights = a.weights;
}

-- the units are those of the day, the links are those that name each trip, and the day is within the limits
pub record Holds (a : Inside) : Type 0 where
  pub units : a.units.items ≡ units_of (day_in a)
  pub day : IsDay (day_in a)
  pub within : IsDayWithin (day_in a)
  pub names : HaveNames (day_in a)
  pub links : AreLinks (day_in a)
  pub meet : DoMeet (day_in a)
  pub stocked : IsStocked (day_in a)
  pub served : HaveCompositions (day_in a)
  pub incoming : a.incoming.items ≡ link_table departing_in a.links.items (length a.trips.items)
  pub outgoing : a.outgoing.items ≡ link_table arriving_in a.links.items (length a.trips.items)
  pub catalogue : a.catalogue ≡ catalogue_of a.types (greatest_in a.stations.items)
  pub few_compositions : length a.catalogue ≤ MAX_COMPOSITIONS
  pub chains : a.chains.items ≡ chains_of (day_in a)
  pub handovers : a.handovers.items ≡ handovers_of (day_in a)
  pub minutes : a.minutes.items ≡ listed (minutes_of (day_in a)) (length a.stations.items)

-- the parts are those of the day that the rows make
pub record AreInstanceParts (parts : InstanceParts) (rows : AcceptedRows) : Type 0 where
  pub units : parts.units.items ≡ units_of (day_with rows)
  pub incoming : parts.linking.incoming.items ≡ link_table departing_in rows.links.items (length rows.trips.items)
  pub outgoing : parts.linking.outgoing.items ≡ link_table arriving_in rows.links.items (length rows.trips.items)
  pub chains : parts.linking.chains.items ≡ chains_of (day_with rows)
  pub handovers : parts.linking.handovers.items ≡ handovers_of (day_with rows)
  pub minutes : parts.minutes.items ≡ listed (minutes_of (day_with rows)) (length rows.stations.items)
