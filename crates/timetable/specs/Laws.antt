-- Which tables make a day and which rows make a plan, decided by tests in their order; how units are numbered, how
-- many are at home at a station, and how many are wanted there; that each unit is in one place at a time; which seats
-- are missing; that a day's chains are no others; what a turn keeps, gives and takes; and what has a multiplier.
use Rattle.std.specs.Prelude.{ℕ, ◌+◌, ◌≤◌, ◌<◌, ◌≡◌, ◌↔◌, ◌==◌, ◌&&◌, List, Bool, Result, Ok, Err, IsOk, Some}
use Rattle.std.specs.Prelude.{length, take, slice_get}
use Rattle.std.specs.List.{AllPairs}
use Rattle.compositions.specs.Composition.{seats_of, first_seats_of}
use Rattle.rules.specs.declared.records.End.{End}
use Rattle.rail_csv.specs.declared.rows.PlanRow.{PlanRow}
use Rattle.day_tables.specs.declared.building.tables.Tables.{Tables}
use Rattle.rules.specs.declared.records.LinkKind.{LinkKind}
use Rattle.rules.specs.declared.records.Stock.{Stock}
use Rattle.timetable.specs.Accepted.{IsTimetable, AreLinks, DoMeet, HaveNames, IsSoundDay, rows_of}
use Rattle.timetable.specs.Build.{day_of, starts_of}
use Rattle.timetable.specs.Chains.{AreChains}
use Rattle.timetable.specs.Cost.{missing_seats}
use Rattle.timetable.specs.Day.{Day, Units, leaves, arrives, from_of, to_of, home_of, type_of, unit_count, wanted_of}
use Rattle.timetable.specs.Day.{demand_of, first_demand_of}
use Rattle.timetable.specs.DayTables.{AreTables}
use Rattle.timetable.specs.Duties.{duty}
use Rattle.timetable.specs.Indices.{HaveMultipliers, lambdas_of, places_of}
use Rattle.timetable.specs.Lists.{count_below}
use Rattle.timetable.specs.Meaning.{IsDayOf}
use Rattle.timetable.specs.NamedEntries.{IsNumberOf, find_name}
use Rattle.timetable.specs.Plans.{plan_of, plan_tests, IsPlanOf}
use Rattle.timetable.specs.Refusals.{day_tests}
use Rattle.timetable.specs.Running.{RunsOf, EachFollows}
use Rattle.timetable.specs.Starts.{start_of}
use Rattle.timetable.specs.Tests.{Test, NoneFailed, IsFirstFailed}
use Rattle.timetable.specs.Turns.{IsKept, kept_of, Parts, AreParts, turn_parts}

-- something is made exactly where no test failed, and is refused exactly for the first that did
pub record IsDecided {X E : Type 0} (made : Result X E) (tests : List (Test E)) : Type 0 where
  pub passed : IsOk made ↔ NoneFailed tests
  pub refused : (refusal : E) → (made ≡ Err refusal) ↔ IsFirstFailed tests refusal

-- the day that tables make
pub record DaysAreMade : Type 0 where
  pub decided : (tables : Tables) → IsDecided (day_of tables) (day_tests tables)
  pub meaning : (tables : Tables) (day : Day) → (day_of tables ≡ Ok day) ↔ IsDayOf tables day

-- a day that tables make whose rows keep within the ranges of their columns is as the laws on days ask for it
abbrev pub TablesMakeSoundDays : Type 0
TablesMakeSoundDays = (tables : Tables) (day : Day) → AreTables tables → day_of tables ≡ Ok day → IsSoundDay day

-- the name of each station and each trip is found as its number
pub record AreFound (day : Day) : Type 0 where
  pub station : (s : ℕ) (name : List ℕ) → IsNumberOf (λ s. s.name) day.stations name s
      → find_name (λ s. s.name) day.stations name ≡ Some s
  pub trip : (t : ℕ) (name : List ℕ) → IsNumberOf (λ t. t.name) day.trips name t
      → find_name (λ t. t.name) day.trips name ≡ Some t

-- so it is where names are apart
abbrev pub NamesAreFound : Type 0
NamesAreFound = (day : Day) → HaveNames day → AreFound day

-- the plan of a day that rows make
pub record PlansAreMade : Type 0 where
  pub decided : (day : Day) (rows : List PlanRow) → IsDecided (plan_of day rows) (plan_tests day rows)
  pub meaning : (day : Day) (rows : List PlanRow) (plan : List (List ℕ)) → (plan_of day rows ≡ Ok plan)
      ↔ IsPlanOf day rows plan

-- the unit is one of the day, of the row's type and at home at the row's station
pub record IsOfRow (day : Day) (row : Stock) (u : ℕ) : Type 0 where
  pub known : u < unit_count day
  pub unit_type : type_of day u ≡ row.unit_type
  pub home : home_of day u ≡ row.station

-- units are numbered by stock row and then within the row: those of a row have the numbers after those of the rows
-- before it, and there are no others than those of rows
pub record AreNumbered (day : Day) : Type 0 where
  pub of_row : (r k : ℕ) (row : Stock) → slice_get day.stock r ≡ Some row → k < row.start
      → IsOfRow day row (starts_of (take r day.stock) + k)
  pub all : unit_count day ≡ starts_of day.stock

abbrev pub UnitsAreNumbered : Type 0
UnitsAreNumbered = (day : Day) → AreNumbered day

-- where a station has at most one stock row of a type, as many numbered units of the type are at home there as the row
-- says for the start of the day, and none where it has no such row
abbrev pub UnitsAreAtHome : Type 0
UnitsAreAtHome = (day : Day) (s m : ℕ) → rows_of day.stock s m ≤ 1
    → count_below (λ u. (home_of day u == s) && (type_of day u == m)) (unit_count day) ≡ start_of day s m

-- how many units of a type stand at a station at the start of the day, and how many are wanted there at its end
pub record HasStock (day : Day) (s m start end : ℕ) : Type 0 where
  pub at_start : start_of day s m ≡ start
  pub at_end : wanted_of day s m ≡ end

-- a stock row says it of its station and type, where no other row is of the two; where no row is, there are none and
-- none are wanted
pub record RowsSayStock : Type 0 where
  pub row : (day : Day) (r : ℕ) (row : Stock) → slice_get day.stock r ≡ Some row
      → rows_of day.stock row.station row.unit_type ≤ 1 → HasStock day row.station row.unit_type row.start row.end
  pub no_row : (day : Day) (s m : ℕ) → rows_of day.stock s m ≡ 0 → HasStock day s m 0 0

-- what runs on trip a can run on trip b after it: b leaves from the station where a arrives, and no earlier than that
pub record GoesOnTo (day : Day) (a b : ℕ) : Type 0 where
  pub time : arrives day a ≤ leaves day b
  pub station : to_of day a ≡ from_of day b

-- what runs on these trips is in one place at a time: each trip leaves from where the one before it arrives, and of any
-- two the later one leaves no earlier than the earlier one arrives
pub record AreInOnePlace (day : Day) (trips : List ℕ) : Type 0 where
  pub follows : EachFollows (GoesOnTo day) trips
  pub apart : AllPairs (λ a b. arrives day a ≤ leaves day b) trips

-- so are the trips of each unit in a plan that runs
abbrev pub UnitsAreInOnePlace : Type 0
UnitsAreInOnePlace = (units : Units) (day : Day) (plan : List (List ℕ)) (u : ℕ) → IsTimetable day → AreLinks day
    → DoMeet day → RunsOf units day plan → u < units.count → AreInOnePlace day (duty day plan u)

-- so many seats of a class are missing: none where there are enough, and else those with which there would be
pub record AreMissing (seats demand missing : ℕ) : Type 0 where
  pub enough : demand ≤ seats → missing ≡ 0
  pub short : seats < demand → seats + missing ≡ demand

-- the seats that are missing on a trip with this composition are those of first class and those of second class
pub record AreMissingByClass (day : Day) (t : ℕ) (types : List ℕ) : Type 0 where
  pub first : ℕ
  pub second : ℕ
  pub of_first : AreMissing (first_seats_of day.types types) (first_demand_of day t) first
  pub of_second : AreMissing (seats_of day.types types) (demand_of day t) second
  pub together : missing_seats day t types ≡ first + second

abbrev pub SeatsAreMissingByClass : Type 0
SeatsAreMissingByClass = (day : Day) (t : ℕ) (types : List ℕ) → AreMissingByClass day t types

-- two lists that are the chains of a day are one
abbrev pub ChainsAreOne : Type 0
ChainsAreOne =
    (day : Day) (some others : List (List ℕ)) → AreLinks day → AreChains day some → AreChains day others → some ≡ others

-- what a link keeps by types is as many as the longest list that fits
abbrev pub KeepTheLongest : Type 0
KeepTheLongest =
    (kind : LinkKind) (arriving departing : List ℕ) → IsKept kind arriving departing (kept_of kind arriving departing)

-- the parts that a turn has are those of its rule, and it has none where no parts are
abbrev pub HaveParts : Type 0
HaveParts = (type_of : ℕ → ℕ) (uncouple couple : End) (exchange : Bool) (arriving departing : List ℕ) (parts : Parts)
    → (turn_parts type_of uncouple couple exchange arriving departing ≡ Some parts)
    ↔ AreParts type_of uncouple couple exchange arriving departing parts

-- each place that is there has one multiplier, and nothing else has; they are in order, those of departure minutes
-- first
abbrev pub PlacesHaveMultipliers : Type 0
PlacesHaveMultipliers = (day : Day) → HaveMultipliers day (places_of day) (length (lambdas_of day))
