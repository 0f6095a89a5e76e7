-- How the table of urgent units is read: its header, and then one row after the other.
use Rattle.std.specs.Prelude.{ℕ, ◌≡◌, ◌++◌, ◌<◌, List, [], ◌∷◌, map}
use Rattle.std.specs.List.{All}
use Rattle.rail_csv.specs.Records.{Records, ReadsOn, records_left}
use Rattle.timetable.specs.Day.{Day, unit_count}
use Rattle.timetable.specs.Lists.{IsDistinct}
use Rattle.urgent_units.specs.declared.refusal.WishRefusal.{WishRefusal}
use Rattle.urgent_units.specs.declared.refusal.WishRefusal.TheVariants.{WrongHeader, BadRow, NoRow, NoMemory}
use Rattle.urgent_units.specs.declared.wish.WishRow.{WishRow}
use Rattle.urgent_units.specs.Wishes.{AreRight, GoTogether, IsFirstBad, SpellsWish, wish_header}

-- the header was read
pub record HasReadHeader (before after : Records) : Type 0 where
  pub next : ReadsOn after
  pub header : records_left before ≡ wish_header ∷ records_left after

-- why a header is refused
abbrev pub IsHeaderRefusal : Records → WishRefusal → Type 0
IsHeaderRefusal before WrongHeader = (records : List (List (List ℕ))) → ¬ (records_left before ≡ wish_header ∷ records)
IsHeaderRefusal before (BadRow number) = ⊥
IsHeaderRefusal before NoRow = ⊥
IsHeaderRefusal before NoMemory = Unit {0}

-- rows that name units of the day, none twice
pub record AreRows (day : Day) (rows : List WishRow) : Type 0 where
  pub known : All (λ row. row.unit < unit_count day) rows
  pub apart : IsDistinct (map (λ row. row.unit) rows)

-- the record spells the row, which goes together with each of the rows before it
pub record IsRightAfter (day : Day) (before : List WishRow) (fields : List (List ℕ)) (row : WishRow) : Type 0 where
  pub spells : SpellsWish day fields row
  pub together : All (λ other. GoTogether day other row) before

-- one record more was read, behind some that were right: they are right with it
pub record HasOneMore (day : Day) (seen : List (List (List ℕ))) (before after : Records) (rows : List WishRow)
    : Type 0 where
  pub next : ReadsOn after
  pub fields : List (List ℕ)
  pub first : records_left before ≡ fields ∷ records_left after
  pub right : AreRight day (seen ++ fields ∷ []) rows

-- why the rows are refused, of these records
abbrev pub IsRowRefusal : Day → List (List (List ℕ)) → WishRefusal → Type 0
IsRowRefusal day records WrongHeader = ⊥
IsRowRefusal day records (BadRow number) = IsFirstBad day records number
IsRowRefusal day records NoRow = ⊥
IsRowRefusal day records NoMemory = Unit {0}
