-- How a table is read: its header, and then one row after the other.
use Rattle.std.specs.Prelude.{◌≡◌, ◌<◌, ◌≤◌, ◌+◌, ℕ, List, [], ◌∷◌, ◌++◌, length, nat_lt, Result, Ok, Err}
use Rattle.std.specs.Prelude.{if◌then◌else◌}
use Rattle.rail_base.specs.Answers.{◌>>=◌}
use Rattle.rail_csv.specs.declared.refusal.TableRefusal.{TableRefusal}
use Rattle.rail_csv.specs.declared.refusal.TableRefusal.TheVariants.{WrongHeader, TooManyRows}
use Rattle.rail_csv.specs.Records.{Records, ReadsOn, records_left}
use Rattle.rail_csv.specs.Tables.{Columns, is_header, row_of, rows_from}

-- how many columns the version has whose header is first
abbrev pub width_of : List (List ℕ) → ℕ → List (List (List ℕ)) → Result ℕ TableRefusal
width_of words fewest [] = Err WrongHeader
width_of words fewest (first ∷ others) = if is_header words fewest first then Ok (length first) else Err WrongHeader

-- the header of a version was read
pub record HasRead (words : List (List ℕ)) (fewest width : ℕ) (before after : Records) : Type 0 where
  pub first : List (List ℕ)
  pub left : records_left before ≡ first ∷ records_left after
  pub header : width_of words fewest (records_left before) ≡ Ok width
  pub wide : width ≡ length first
  pub reads : ReadsOn after

-- rows that were read before, and those that are still to be read
abbrev pub with_front : {Row : Type 0} → List Row → Result (List Row) TableRefusal → Result (List Row) TableRefusal
with_front front read = read >>= λ rest. Ok (front ++ rest)

-- the rows that were read, and those of the records that are left
abbrev pub all_rows : {Row : Type 0} → ℕ → ℕ → Columns Row → List Row → List (List (List ℕ))
    → Result (List Row) TableRefusal
all_rows width limit columns rows left = with_front rows (rows_from width limit columns (length rows + 1) left)

-- the row with this number, which is one too many past the limit
abbrev pub row_within : {Row : Type 0} → ℕ → ℕ → Columns Row → ℕ → List (List ℕ) → Result Row TableRefusal
row_within width limit columns row fields =
    if nat_lt limit row then Err TooManyRows else row_of width columns row fields

-- the row of these fields came behind the rows
pub record HasOneMore {Row : Type 0} (width limit : ℕ) (columns : Columns Row)
    (fields : List (List ℕ)) (rows more : List Row) : Type 0 where
  pub room : length rows < limit
  pub row : Row
  pub read : row_of width columns (length rows + 1) fields ≡ Ok row
  pub items : more ≡ rows ++ row ∷ []

-- records were read, the rows are within the limit, and what is read all together is the same
pub record GoesOn {Row : Type 0} (width limit : ℕ) (columns : Columns Row)
    (rows more : List Row) (before after : Records) : Type 0 where
  pub reads : ReadsOn after
  pub few : length more ≤ limit
  pub less : length (records_left after) < length (records_left before)
  pub total : all_rows width limit columns more (records_left after)
      ≡ all_rows width limit columns rows (records_left before)
