-- What the rows of the links make: the links, or the first test that fails. Each row is tested by what the rows before
-- it gave.
use Rattle.std.specs.Prelude.{ℕ, List, [], Bool, true, false, not, ◌&&◌, ◌||◌, ◌==◌, nat_le, if◌then◌else◌, Option}
use Rattle.std.specs.Prelude.{Some, None, Result, Ok, Err}
use Rattle.std.specs.List.{list_any}
use Rattle.rail_base.specs.Answers.{◌>>=◌}
use Rattle.rules.specs.declared.records.End.{End}
use Rattle.rules.specs.declared.records.End.TheVariants as at
use Rattle.rail_csv.specs.declared.rows.KindWord.{KindWord}
use Rattle.rail_csv.specs.declared.rows.KindWord.TheVariants as words
use Rattle.rail_csv.specs.declared.rows.LinkRow.{LinkRow}
use Rattle.rail_csv.specs.declared.rows.Table.TheVariants as tables
use Rattle.rules.specs.declared.records.Link.{Link}
use Rattle.rules.specs.declared.records.LinkKind.{LinkKind}
use Rattle.rules.specs.declared.records.LinkKind.TheVariants.{Turn, Join, Split}
use Rattle.rules.specs.declared.records.Trip.{Trip}
use Rattle.day_tables.specs.declared.building.refusal.InstanceRefusal.{InstanceRefusal}
use Rattle.day_tables.specs.declared.building.refusal.InstanceRefusal.TheVariants.{TripUsedTwice, WrongLinkFields}
use Rattle.day_tables.specs.declared.building.refusal.InstanceRefusal.TheVariants.{UnknownName, WrongStation, TooEarly}
use Rattle.day_tables.specs.Links.{arriving_in, departing_in}
use Rattle.day_tables.specs.Lists.{of_entry, has}
use Rattle.day_tables.specs.NamedEntries.{find_name, found_or}
use Rattle.day_tables.specs.Rowwise.{row_after, accept_each}
pub use Rattle.rules.specs.NamedTrips.{NamesBelow, AreBelow}

-- ---- the kind of a row, with the trips that it names

-- the number of the trip that a column names
abbrev pub trip_named : List Trip → ℕ → ℕ → List ℕ → Result ℕ InstanceRefusal
trip_named trips number column name =
    found_or (find_name (λ trip. trip.name) trips name) (UnknownName tables.Links number column)

-- an end of a train, and not none
abbrev pub is_an_end : End → Bool
is_an_end at.None = false
is_an_end at.Front = true
is_an_end at.Rear = true

-- units are exchanged, and not at an end each
abbrev pub lacks_an_end : End → End → Bool → Bool
lacks_an_end uncouple couple exchange = exchange && not (is_an_end uncouple && is_an_end couple)

-- units are uncoupled, coupled or exchanged
abbrev pub does_shunt : End → End → Bool → Bool
does_shunt uncouple couple exchange = is_an_end uncouple || is_an_end couple || exchange

-- a turn names one trip on either side, and two ends where it exchanges units
unfoldable pub turn_in : List Trip → ℕ → LinkRow → Option (List ℕ) → Option (List ℕ) → Result LinkKind InstanceRefusal
turn_in trips number row None None =
    if lacks_an_end row.uncouple row.couple row.exchange then Err (WrongLinkFields number) else do
      arriving ← trip_named trips number 1 row.arriving
      departing ← trip_named trips number 3 row.departing
      Ok (Turn arriving departing row.uncouple row.couple row.exchange)
turn_in trips number row _ _ = Err (WrongLinkFields number)

-- a join names two arriving trips and one departing trip, no end and no exchange
unfoldable pub join_in : List Trip → ℕ → LinkRow → Option (List ℕ) → Option (List ℕ) → Result LinkKind InstanceRefusal
join_in trips number row (Some name) None =
    if does_shunt row.uncouple row.couple row.exchange then Err (WrongLinkFields number) else do
      first ← trip_named trips number 1 row.arriving
      second ← trip_named trips number 2 name
      departing ← trip_named trips number 3 row.departing
      Ok (Join first second departing)
join_in trips number row _ _ = Err (WrongLinkFields number)

-- a split names one arriving trip and two departing trips, no end and no exchange
unfoldable pub split_in : List Trip → ℕ → LinkRow → Option (List ℕ) → Option (List ℕ) → Result LinkKind InstanceRefusal
split_in trips number row None (Some name) =
    if does_shunt row.uncouple row.couple row.exchange then Err (WrongLinkFields number) else do
      arriving ← trip_named trips number 1 row.arriving
      first ← trip_named trips number 3 row.departing
      second ← trip_named trips number 4 name
      Ok (Split arriving first second)
split_in trips number row _ _ = Err (WrongLinkFields number)

abbrev pub kind_of : KindWord → List Trip → ℕ → LinkRow → Result LinkKind InstanceRefusal
kind_of words.Turn trips number row = turn_in trips number row row.arriving2 row.departing2
kind_of words.Join trips number row = join_in trips number row row.arriving2 row.departing2
kind_of words.Split trips number row = split_in trips number row row.arriving2 row.departing2

-- ---- the trips of a kind

-- one of the links names the trip as arriving, or as departing
abbrev pub is_arriving : List Link → ℕ → Bool
is_arriving links t = list_any (λ link. has t (arriving_in link.kind)) links

abbrev pub is_departing : List Link → ℕ → Bool
is_departing links t = list_any (λ link. has t (departing_in link.kind)) links

-- a trip is named as arriving, or as departing, that this kind or an earlier link has already named so
abbrev pub names_again : List Link → LinkKind → Bool
names_again before (Turn a b uncouple couple exchange) = is_arriving before a || is_departing before b
names_again before (Join a1 a2 b) = a1 == a2 || is_arriving before a1 || is_arriving before a2 || is_departing before b
names_again before (Split a b1 b2) =
    b1 == b2 || is_arriving before a || is_departing before b1 || is_departing before b2

-- trip a goes to the station that trip b leaves from
abbrev pub do_meet : List Trip → ℕ → ℕ → Bool
do_meet trips a b = of_entry (λ trip. trip.to) trips a 0 == of_entry (λ trip. trip.from) trips b 0

-- trip b leaves at the minute at which trip a arrives, or later
abbrev pub is_in_time : List Trip → ℕ → ℕ → Bool
is_in_time trips a b = nat_le (of_entry (λ trip. trip.arrival) trips a 1) (of_entry (λ trip. trip.departure) trips b 0)

-- each arriving trip passes the test with each departing one
abbrev pub each_pair : (ℕ → ℕ → Bool) → LinkKind → Bool
each_pair test (Turn a b uncouple couple exchange) = test a b
each_pair test (Join a1 a2 b) = test a1 b && test a2 b
each_pair test (Split a b1 b2) = test a b1 && test a b2

-- ---- the links

-- a link, once its trips passed the tests
unfoldable pub accept_trips : List Trip → List Link → ℕ → Link → Result Link InstanceRefusal
accept_trips trips before number link =
    if names_again before link.kind then Err (TripUsedTwice number)
    else if each_pair (do_meet trips) link.kind
    then (if each_pair (is_in_time trips) link.kind then Ok link else Err (TooEarly number))
    else Err (WrongStation number)

unfoldable pub accept_link : List Trip → List Link → LinkRow → Result Link InstanceRefusal
accept_link trips before row = do
  kind ← kind_of row.kind trips (row_after before) row
  accept_trips trips before (row_after before) (record { kind = kind; reverse = row.reverse })

unfoldable pub links_in : List Trip → List LinkRow → Result (List Link) InstanceRefusal
links_in trips rows = accept_each (accept_link trips) [] rows
