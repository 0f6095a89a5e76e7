-- The table of prices: what is read of it, and why it is refused.
use Rattle.std.specs.Prelude.{ℕ, ◌≡◌, ◌<◌, ◌+◌, ◌++◌, List, [], ◌∷◌, length, codes, ⊤}
use Rattle.rules.specs.declared.records.UnitType.{UnitType}
use Rattle.rail_csv.specs.Columns.{field}
use Rattle.rail_csv.specs.Spelling.{SpellsNumber}
use Rattle.rail_csv.specs.Tables.{records_of}
use Rattle.timetable.specs.Day.{Day}
use Rattle.fleet_check.specs.declared.refusal.PriceRefusal.{PriceRefusal}
use Rattle.fleet_check.specs.declared.refusal.PriceRefusal.TheVariants.{WrongHeader, BadRow, MissingRow, NoMemory}

abbrev pub price_header : List (List ℕ)
price_header = codes "type" ∷ codes "cost" ∷ []

-- the record has two fields: the name of the type, and a number, which is its cost
pub record SpellsPrice (unit_type : UnitType) (fields : List (List ℕ)) (cost : ℕ) : Type 0 where
  pub width : length fields ≡ 2
  pub name : field fields 0 ≡ unit_type.name
  pub number : SpellsNumber (field fields 1) cost

-- the records spell the costs of the first types, one record a type, in order
abbrev pub AreRight : List (List (List ℕ)) → List UnitType → List ℕ → Type 0
AreRight [] types [] = ⊤
AreRight (first ∷ records) (unit_type ∷ types) (cost ∷ costs) =
    SpellsPrice unit_type first cost × AreRight records types costs
AreRight records types costs = ⊥

-- the records spell the costs of all types
pub record AreAllRight (records : List (List (List ℕ))) (types : List UnitType) (costs : List ℕ) : Type 0 where
  pub right : AreRight records types costs
  pub all : length costs ≡ length types

-- the table has the header, and these records follow it
abbrev pub HasRecords : List ℕ → List (List (List ℕ)) → Type 0
HasRecords bytes records = records_of bytes ≡ price_header ∷ records

-- The prices that the table says: one for each type, which its records spell.
pub record ArePricesOf (day : Day) (bytes prices : List ℕ) : Type 0 where
  pub records : List (List (List ℕ))
  pub table : HasRecords bytes records
  pub right : AreAllRight records day.types prices

-- of these records the one with this number, counted from 1, is the first that is wrong: those before it are right, and
-- with it they aren't
pub record IsFirstBad (day : Day) (records : List (List (List ℕ))) (number : ℕ) : Type 0 where
  pub before : List (List (List ℕ))
  pub bad : List (List ℕ)
  pub others : List (List (List ℕ))
  pub parts : records ≡ before ++ bad ∷ others
  pub counted : number ≡ length before + 1
  pub costs : List ℕ
  pub right : AreRight before day.types costs
  pub wrong : (more : List ℕ) → ¬ AreRight (before ++ bad ∷ []) day.types more

-- all records are right, and this is the number of the last of them, but types are left
pub record IsMissing (day : Day) (records : List (List (List ℕ))) (number : ℕ) : Type 0 where
  pub counted : number ≡ length records
  pub costs : List ℕ
  pub right : AreRight records day.types costs
  pub left : length records < length day.types

-- why a table is refused
abbrev pub IsPriceRefusal : Day → List ℕ → PriceRefusal → Type 0
IsPriceRefusal day bytes WrongHeader = (records : List (List (List ℕ))) → ¬ HasRecords bytes records
IsPriceRefusal day bytes (BadRow number) =
    (records : List (List (List ℕ))) × HasRecords bytes records × IsFirstBad day records number
IsPriceRefusal day bytes (MissingRow number) =
    (records : List (List (List ℕ))) × HasRecords bytes records × IsMissing day records number
IsPriceRefusal day bytes NoMemory = Unit {0}
