-- What spells a row: in each column a field that spells what the row has there. Fields are read as a row exactly where
-- they spell it, and the row is within the ranges of its columns.
use Rattle.std.specs.Prelude.{ℕ, ◌≡◌, ◌↔◌, List, [], Bool, true, false, IsTrue, length, All, IsUtf8, codes, slice_get}
use Rattle.std.specs.Prelude.{Option, Some, None, MatchOption, Ok}
use Rattle.std.specs.List.{AllZip}
use Rattle.rail_csv.specs.declared.rows.KindWord.{KindWord}
use Rattle.rail_csv.specs.declared.rows.KindWord.TheVariants as kinds
use Rattle.rules.specs.declared.records.End.{End}
use Rattle.rules.specs.declared.records.End.TheVariants as ends
use Rattle.rail_csv.specs.declared.rows.TypeRow.{TypeRow}
use Rattle.rail_csv.specs.declared.rows.StationRow.{StationRow}
use Rattle.rail_csv.specs.declared.rows.StockRow.{StockRow}
use Rattle.rail_csv.specs.declared.rows.TripRow.{TripRow}
use Rattle.rail_csv.specs.declared.rows.LinkRow.{LinkRow}
use Rattle.rail_csv.specs.declared.rows.WeightsRow.{WeightsRow}
use Rattle.rail_csv.specs.declared.rows.PlanRow.{PlanRow}
use Rattle.rail_csv.specs.Fields.{is_number, number_of, is_time, time_of, pieces_of}
use Rattle.rail_csv.specs.Columns.{field}
use Rattle.rail_csv.specs.Tables.{Columns, type_columns, station_columns, stock_columns, trip_columns, link_columns}
use Rattle.rail_csv.specs.Tables.{weight_columns, plan_columns}
use Rattle.rail_csv.specs.Rows.{IsTypeRow, IsStationRow, IsStockRow, IsTripRow, IsLinkRow, IsWeightsRow, IsPlanRow}

-- ---- what spells a value

abbrev pub SpellsNumber : List ℕ → ℕ → Type 0
SpellsNumber text number = IsTrue (is_number text) × (number_of text ≡ number)

-- a time, as the minutes since the first midnight
abbrev pub SpellsTime : List ℕ → ℕ → Type 0
SpellsTime text minute = IsTrue (is_time text) × (time_of text ≡ minute)

-- a name is its own text
abbrev pub SpellsName : List ℕ → List ℕ → Type 0
SpellsName text name = text ≡ name

-- and where there is none, the field is empty
abbrev pub SpellsOptionalName : List ℕ → Option (List ℕ) → Type 0
SpellsOptionalName text None = text ≡ []
SpellsOptionalName text (Some name) = SpellsName text name

abbrev pub kind_word : KindWord → List ℕ
kind_word kinds.Turn = codes "turn"
kind_word kinds.Join = codes "join"
kind_word kinds.Split = codes "split"

abbrev pub SpellsKind : List ℕ → KindWord → Type 0
SpellsKind text kind = text ≡ kind_word kind

abbrev pub answer_word : Bool → List ℕ
answer_word true = codes "yes"
answer_word false = codes "no"

abbrev pub SpellsAnswer : List ℕ → Bool → Type 0
SpellsAnswer text answer = text ≡ answer_word answer

abbrev pub end_word : End → List ℕ
end_word ends.None = codes "none"
end_word ends.Front = codes "front"
end_word ends.Rear = codes "rear"

abbrev pub SpellsEnd : List ℕ → End → Type 0
SpellsEnd text end = text ≡ end_word end

-- units by number: the pieces between single spaces spell them, one each
abbrev pub SpellsUnits : List ℕ → List ℕ → Type 0
SpellsUnits text units = AllZip SpellsNumber (pieces_of text) units

-- A column that the first version lacks: what the field spells, and where the version has no such column, the one value
-- that stands for it.
abbrev pub SpellsIfThere : {Value : Type 0} → (List ℕ → Value → Type 0) → Value → List (List ℕ) → ℕ → Value → Type 0
SpellsIfThere Spells lacking fields column value =
    MatchOption (slice_get fields column) (value ≡ lacking) (λ text. Spells text value)

-- ---- what spells a row of each table

pub record SpellsTypeRow (fields : List (List ℕ)) (row : TypeRow) : Type 0 where
  pub name : SpellsName (field fields 0) row.name
  pub carriages : SpellsNumber (field fields 1) row.carriages
  pub seats : SpellsNumber (field fields 2) row.seats
  pub metres : SpellsNumber (field fields 3) row.metres
  pub family : SpellsName (field fields 4) row.family
  pub first : SpellsIfThere SpellsNumber 0 fields 5 row.first

pub record SpellsStationRow (fields : List (List ℕ)) (row : StationRow) : Type 0 where
  pub name : SpellsName (field fields 0) row.name
  pub platform : SpellsNumber (field fields 1) row.platform
  pub reallocation : SpellsNumber (field fields 2) row.reallocation

pub record SpellsStockRow (fields : List (List ℕ)) (row : StockRow) : Type 0 where
  pub station : SpellsName (field fields 0) row.station
  pub unit_type : SpellsName (field fields 1) row.unit_type
  pub start : SpellsNumber (field fields 2) row.start
  pub end : SpellsNumber (field fields 3) row.end

pub record SpellsTripRow (fields : List (List ℕ)) (row : TripRow) : Type 0 where
  pub name : SpellsName (field fields 0) row.name
  pub from : SpellsName (field fields 1) row.from
  pub departure : SpellsTime (field fields 2) row.departure
  pub to : SpellsName (field fields 3) row.to
  pub arrival : SpellsTime (field fields 4) row.arrival
  pub km : SpellsNumber (field fields 5) row.km
  pub demand : SpellsNumber (field fields 6) row.demand
  pub first : SpellsIfThere SpellsNumber 0 fields 7 row.first

pub record SpellsLinkRow (fields : List (List ℕ)) (row : LinkRow) : Type 0 where
  pub kind : SpellsKind (field fields 0) row.kind
  pub arriving : SpellsName (field fields 1) row.arriving
  pub arriving2 : SpellsOptionalName (field fields 2) row.arriving2
  pub departing : SpellsName (field fields 3) row.departing
  pub departing2 : SpellsOptionalName (field fields 4) row.departing2
  pub reverse : SpellsAnswer (field fields 5) row.reverse
  pub uncouple : SpellsEnd (field fields 6) row.uncouple
  pub couple : SpellsEnd (field fields 7) row.couple
  pub exchange : SpellsIfThere SpellsAnswer false fields 8 row.exchange

pub record SpellsWeightsRow (fields : List (List ℕ)) (row : WeightsRow) : Type 0 where
  pub carriage : SpellsNumber (field fields 0) row.carriage
  pub shortage : SpellsNumber (field fields 1) row.shortage
  pub shunting : SpellsNumber (field fields 2) row.shunting

pub record SpellsPlanRow (fields : List (List ℕ)) (row : PlanRow) : Type 0 where
  pub trip : SpellsName (field fields 0) row.trip
  pub units : SpellsUnits (field fields 1) row.units

-- ---- what is read as a row

-- What a record is that is read as this row, in a version with so many columns: it has as many fields, all of them are
-- UTF-8, and the columns read them as the row.
abbrev pub IsRightRow : {Row : Type 0} → ℕ → Columns Row → ℕ → List (List ℕ) → Row → Type 0
IsRightRow width columns number fields row =
    (length fields ≡ width) × All (λ text. IsUtf8 text) fields × (columns number fields ≡ Ok row)

-- the columns read fields as a row exactly where they spell it and it is within its ranges
abbrev pub ReadWhatIsSpelled : {Row : Type 0} → Columns Row → (List (List ℕ) → Row → Type 0) → (Row → Type 0) → Type 0
ReadWhatIsSpelled {Row = Row} columns Spells IsRow = (number : ℕ) (fields : List (List ℕ)) (row : Row)
    → (columns number fields ≡ Ok row) ↔ (Spells fields row × IsRow row)

-- the columns of each table read what is spelled and within its ranges, and nothing else
pub record EachReadsWhatIsSpelled : Type 0 where
  pub types : ReadWhatIsSpelled type_columns SpellsTypeRow IsTypeRow
  pub stations : ReadWhatIsSpelled station_columns SpellsStationRow IsStationRow
  pub stock : ReadWhatIsSpelled stock_columns SpellsStockRow IsStockRow
  pub trips : ReadWhatIsSpelled trip_columns SpellsTripRow IsTripRow
  pub links : ReadWhatIsSpelled link_columns SpellsLinkRow IsLinkRow
  pub weights : ReadWhatIsSpelled weight_columns SpellsWeightsRow IsWeightsRow
  pub plan : ReadWhatIsSpelled plan_columns SpellsPlanRow IsPlanRow
