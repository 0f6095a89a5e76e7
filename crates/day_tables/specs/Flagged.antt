-- What the links so far hold beside them: two flags for each trip.
use Rattle.std.specs.Prelude.{◌≡◌, length}
use Rattle.day_tables.specs.declared.building.linked.Linked.TheInside.{Inside}
use Rattle.day_tables.specs.Flags.{LinksOfTrips, IsFlagged}
use Rattle.day_tables.specs.Links.{arriving_in, departing_in}

abbrev pub linked_in : Inside → LinksOfTrips
linked_in a = record { links = a.links.items; trips = length a.arriving.items }

-- each trip has its two flags
pub record AreFlagged (a : Inside) : Type 0 where
  pub as_many : length a.departing.items ≡ length a.arriving.items
  pub arriving : IsFlagged arriving_in a.links.items a.arriving.items
  pub departing : IsFlagged departing_in a.links.items a.departing.items
