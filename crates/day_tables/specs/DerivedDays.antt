-- Days that derive from a day: the same day with other stock rows, and the day without some of its trips.
use Rattle.std.specs.Prelude.{ℕ, ◌≡◌, ◌<◌, ◌+◌, List, [], ◌∷◌, ◌++◌, length, map, filter, Bool, false, not}
use Rattle.std.specs.Prelude.{option_map, option_to_list, unwrap_or, slice_get, if◌then◌else◌, Ok}
use Rattle.std.specs.List.{list_any}
use Rattle.rail_csv.specs.declared.rows.LinkRow.{LinkRow}
use Rattle.rail_csv.specs.declared.rows.TripRow.{TripRow}
use Rattle.day_tables.specs.declared.building.tables.Tables.{Tables}
use Rattle.rules.specs.declared.records.Link.{Link}
use Rattle.rules.specs.declared.records.LinkKind.{LinkKind}
use Rattle.rules.specs.declared.records.LinkKind.TheVariants.{Turn, Join, Split}
use Rattle.rules.specs.declared.records.Stock.{Stock}
use Rattle.day_tables.specs.Accepted.{IsTimetable, AreLinks, DoMeet, HaveCompositions}
use Rattle.day_tables.specs.Build.{day_of}
use Rattle.day_tables.specs.Compositions.{compositions_of}
use Rattle.day_tables.specs.Day.{Day}
use Rattle.day_tables.specs.Links.{arriving_in, departing_in}
use Rattle.day_tables.specs.Lists.{has, listed, count_below}
use Rattle.day_tables.specs.NamedEntries.{find_name}

-- ---- other stock

-- the same day with other stock rows: other units, and other numbers of them at the start and the end
abbrev pub with_stock : List Stock → Day → Day
with_stock rows day = record day { stock = rows }

-- it has the same timetable
pub record KeepsTimetable (day : Day) (rows : List Stock) : Type 0 where
  pub timetable : IsTimetable day → IsTimetable (with_stock rows day)
  pub links : AreLinks day → AreLinks (with_stock rows day)
  pub meet : DoMeet day → DoMeet (with_stock rows day)
  pub served : HaveCompositions day → HaveCompositions (with_stock rows day)
  pub compositions : compositions_of (with_stock rows day) ≡ compositions_of day

abbrev pub OtherStockKeepsTimetables : Type 0
OtherStockKeepsTimetables = (day : Day) (rows : List Stock) → KeepsTimetable day rows

-- ---- without some trips, which are told by their numbers

-- the entries whose places are not among the gone, where the first of them has this place
abbrev pub left_from : {X : Type 0} → List ℕ → ℕ → List X → List X
left_from gone place [] = []
left_from gone place (entry ∷ entries) =
    if has place gone then left_from gone (place + 1) entries else entry ∷ left_from gone (place + 1) entries

-- the trips that are left, in order; or their rows, or their numbers
abbrev pub left : {X : Type 0} → List ℕ → List X → List X
left gone entries = left_from gone 0 entries

-- the number that a trip has then: how many trips are left before it
abbrev pub new_number : List ℕ → ℕ → ℕ
new_number gone t = count_below (λ k. not (has k gone)) t

-- the numbers that the trips of then had before, in order, and that of one of them
abbrev pub old_numbers : Day → List ℕ → List ℕ
old_numbers day gone = left gone (listed (λ k. k) (length day.trips))

abbrev pub old_number : Day → List ℕ → ℕ → ℕ
old_number day gone t = unwrap_or (slice_get (old_numbers day gone) t) 0

-- a link with other numbers of its trips
abbrev pub kind_with : (ℕ → ℕ) → LinkKind → LinkKind
kind_with number (Turn a b uncouple couple exchange) = Turn (number a) (number b) uncouple couple exchange
kind_with number (Join a1 a2 b) = Join (number a1) (number a2) (number b)
kind_with number (Split a b1 b2) = Split (number a) (number b1) (number b2)

abbrev pub link_with : (ℕ → ℕ) → Link → Link
link_with number link = record { kind = kind_with number link.kind; reverse = link.reverse }

-- a link names a trip that is gone
abbrev pub names_gone : List ℕ → LinkKind → Bool
names_gone gone kind = list_any (λ t. has t gone) (arriving_in kind ++ departing_in kind)

-- the links that name none, in order, with the numbers that their trips have then
abbrev pub links_left : List ℕ → List Link → List Link
links_left gone links = map (link_with (new_number gone)) (filter (λ link. not (names_gone gone link.kind)) links)

-- The day without these trips, and without the links that name one of them; all else stays.
abbrev pub without_trips : List ℕ → Day → Day
without_trips gone day = record day { trips = left gone day.trips; links = links_left gone day.links }

-- ---- the tables of that day

-- the row of the trip with this name is gone
abbrev pub is_gone : List TripRow → List ℕ → List ℕ → Bool
is_gone rows gone name = unwrap_or (option_map (λ t. has t gone) (find_name (λ row. row.name) rows name)) false

-- the names of the trips of a link row
abbrev pub names_in : LinkRow → List (List ℕ)
names_in row = (row.arriving ∷ option_to_list row.arriving2) ++ (row.departing ∷ option_to_list row.departing2)

-- a link row names a trip whose row is gone
unfoldable pub row_names_gone : List TripRow → List ℕ → LinkRow → Bool
row_names_gone rows gone row = list_any (is_gone rows gone) (names_in row)

-- The tables without the rows of these trips, and without the link rows that name one of them.
unfoldable pub tables_without : List ℕ → Tables → Tables
tables_without gone tables =
    record tables {
      trips = left gone tables.trips;
      links = filter (λ row. not (row_names_gone tables.trips gone row)) tables.links;
    }

-- where tables make a day, they make the day without these trips once the rows are gone
abbrev pub TablesMakeDaysWithout : Type 0
TablesMakeDaysWithout = (tables : Tables) (day : Day) (gone : List ℕ) → day_of tables ≡ Ok day
    → day_of (tables_without gone tables) ≡ Ok (without_trips gone day)

-- ---- what stays of a trip

-- a trip of then is a trip of before: it had this number, is not gone, and has its number of then by it
pub record IsTripLeft (day : Day) (gone : List ℕ) (t : ℕ) : Type 0 where
  pub before : old_number day gone t < length day.trips
  pub stays : has (old_number day gone t) gone ≡ false
  pub number : new_number gone (old_number day gone t) ≡ t
  pub same : slice_get (without_trips gone day).trips t ≡ slice_get day.trips (old_number day gone t)

-- a trip of before that is not gone is a trip of then
pub record StaysTrip (day : Day) (gone : List ℕ) (t : ℕ) : Type 0 where
  pub after : new_number gone t < length (without_trips gone day).trips
  pub number : old_number day gone (new_number gone t) ≡ t

-- the trips of then are those of before that are not gone, in the same order
pub record AreTripsLeft (day : Day) (gone : List ℕ) : Type 0 where
  pub each : (t : ℕ) → t < length (without_trips gone day).trips → IsTripLeft day gone t
  pub all : (t : ℕ) → t < length day.trips → has t gone ≡ false → StaysTrip day gone t

abbrev pub TripsThatAreLeft : Type 0
TripsThatAreLeft = (day : Day) (gone : List ℕ) → AreTripsLeft day gone
