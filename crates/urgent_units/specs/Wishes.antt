-- The table of urgent units: what is read of it, and why it is refused.
use Rattle.std.specs.Prelude.{ℕ, ◌≡◌, ◌<◌, ◌≤◌, ◌+◌, ◌++◌, List, [], ◌∷◌, length, map, codes, IsTrue, Some, IsUtf8}
use Rattle.std.specs.List.{All, AllPairs, AllZip}
use Rattle.rail_csv.specs.Columns.{field}
use Rattle.rail_csv.specs.Spelling.{SpellsNumber}
use Rattle.rail_csv.specs.Tables.{records_of}
use Rattle.timetable.specs.Day.{Day, type_of, unit_count}
use Rattle.timetable.specs.Lists.{has, IsDistinct}
use Rattle.timetable.specs.NamedEntries.{find_name}
use Rattle.timetable.specs.Running.{AreUnits}
use Rattle.urgent_units.specs.declared.refusal.WishRefusal.{WishRefusal}
use Rattle.urgent_units.specs.declared.refusal.WishRefusal.TheVariants.{WrongHeader, BadRow, NoRow, NoMemory}
use Rattle.urgent_units.specs.declared.wish.Wish.{Wish}
use Rattle.urgent_units.specs.declared.wish.WishRow.{WishRow}

-- ---- what a wish of a day is

-- urgent units of the day, all of one type and none twice, and a station of the day as their depot
pub record IsWish (day : Day) (wish : Wish) : Type 0 where
  pub depot : wish.depot < length day.stations
  pub known : AreUnits day wish.units
  pub types : (u : ℕ) → IsTrue (has u wish.units) → type_of day u ≡ wish.unit_type
  pub distinct : IsDistinct wish.units

-- ---- the rows

abbrev pub wish_header : List (List ℕ)
wish_header = codes "unit" ∷ codes "depot" ∷ []

-- the text, which is UTF-8, is the name of a station
pub record NamesStation (day : Day) (text : List ℕ) (s : ℕ) : Type 0 where
  pub utf8 : IsUtf8 text
  pub found : find_name (λ station. station.name) day.stations text ≡ Some s

-- the text is the number of a unit of the day
pub record NamesUnit (day : Day) (text : List ℕ) (u : ℕ) : Type 0 where
  pub number : SpellsNumber text u
  pub known : u < unit_count day

-- the record has two fields: the number of a unit of the day, and the name of a station
pub record SpellsWish (day : Day) (fields : List (List ℕ)) (row : WishRow) : Type 0 where
  pub width : length fields ≡ 2
  pub unit : NamesUnit day (field fields 0) row.unit
  pub depot : NamesStation day (field fields 1) row.depot

-- two rows name two units of one type, and one depot
pub record GoTogether (day : Day) (one other : WishRow) : Type 0 where
  pub unit_type : type_of day one.unit ≡ type_of day other.unit
  pub depot : one.depot ≡ other.depot
  pub units : ¬ (one.unit ≡ other.unit)

-- these records are right: they spell these rows, and each two of these go together
pub record AreRight (day : Day) (records : List (List (List ℕ))) (rows : List WishRow) : Type 0 where
  pub each : AllZip (SpellsWish day) records rows
  pub together : AllPairs (GoTogether day) rows

-- ---- the table

-- the table has the header, and these records follow it
abbrev pub HasRecords : List ℕ → List (List (List ℕ)) → Type 0
HasRecords bytes records = records_of bytes ≡ wish_header ∷ records

-- The wish that the table says: there is a record, all of them are right, and the wish has their units in order, the
-- type of these and their depot.
pub record IsWishOf (day : Day) (bytes : List ℕ) (wish : Wish) : Type 0 where
  pub records : List (List (List ℕ))
  pub rows : List WishRow
  pub table : HasRecords bytes records
  pub some : 1 ≤ length records
  pub right : AreRight day records rows
  pub units : wish.units ≡ map (λ row. row.unit) rows
  pub unit_type : All (λ row. type_of day row.unit ≡ wish.unit_type) rows
  pub depot : All (λ row. row.depot ≡ wish.depot) rows

-- of these records the one with this number, counted from 1, is the first that is wrong: those before it are right, and
-- with it they aren't
pub record IsFirstBad (day : Day) (records : List (List (List ℕ))) (number : ℕ) : Type 0 where
  pub before : List (List (List ℕ))
  pub bad : List (List ℕ)
  pub others : List (List (List ℕ))
  pub parts : records ≡ before ++ bad ∷ others
  pub counted : number ≡ length before + 1
  pub rows : List WishRow
  pub right : AreRight day before rows
  pub wrong : (more : List WishRow) → ¬ AreRight day (before ++ bad ∷ []) more

-- why a table is refused: its first record isn't the header; or a record is wrong, the first of them; or no record
-- follows the header
abbrev pub IsWishRefusal : Day → List ℕ → WishRefusal → Type 0
IsWishRefusal day bytes WrongHeader = (records : List (List (List ℕ))) → ¬ HasRecords bytes records
IsWishRefusal day bytes (BadRow number) =
    (records : List (List (List ℕ))) × HasRecords bytes records × IsFirstBad day records number
IsWishRefusal day bytes NoRow = HasRecords bytes []
IsWishRefusal day bytes NoMemory = Unit {0}
