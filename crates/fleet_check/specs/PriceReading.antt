-- How the table of prices is read: its header, and then one row after the other.
use Rattle.std.specs.Prelude.{ℕ, ◌≡◌, List, ◌∷◌}
use Rattle.rail_csv.specs.Records.{Records, ReadsOn, records_left}
use Rattle.timetable.specs.Day.{Day}
use Rattle.fleet_check.specs.declared.refusal.PriceRefusal.{PriceRefusal}
use Rattle.fleet_check.specs.declared.refusal.PriceRefusal.TheVariants.{WrongHeader, BadRow, MissingRow, NoMemory}
use Rattle.fleet_check.specs.PriceTables.{IsFirstBad, IsMissing, price_header}

-- the header was read
pub record HasReadHeader (before after : Records) : Type 0 where
  pub next : ReadsOn after
  pub header : records_left before ≡ price_header ∷ records_left after

-- why a header is refused
abbrev pub IsHeaderRefusal : Records → PriceRefusal → Type 0
IsHeaderRefusal before WrongHeader = (records : List (List (List ℕ))) → ¬ (records_left before ≡ price_header ∷ records)
IsHeaderRefusal before (BadRow number) = ⊥
IsHeaderRefusal before (MissingRow number) = ⊥
IsHeaderRefusal before NoMemory = Unit {0}

-- why the rows are refused, of these records
abbrev pub IsRowRefusal : Day → List (List (List ℕ)) → PriceRefusal → Type 0
IsRowRefusal day records WrongHeader = ⊥
IsRowRefusal day records (BadRow number) = IsFirstBad day records number
IsRowRefusal day records (MissingRow number) = IsMissing day records number
IsRowRefusal day records NoMemory = Unit {0}
