-- What a column takes: the value of its field, or the refusal with the field's row and column.
use Rattle.std.specs.Prelude.{ℕ, List, [], ◌∷◌, length, Bool, true, false, ◌&&◌, nat_le, Option, Some, None, Result, Ok}
use Rattle.std.specs.Prelude.{Err, if◌then◌else◌, codes, slice_index_or}
use Rattle.std.specs.List.{list_all}
use Rattle.std.specs.Str.{bytes_eq}
use Rattle.rail_base.specs.Answers.{◌>>=◌}
use Rattle.rail_base.specs.Names.{is_name}
use Rattle.rail_base.specs.declared.limits.TheConstants.{MAX_COMPOSITION_UNITS}
use Rattle.rail_csv.specs.declared.refusal.TableRefusal.{TableRefusal}
use Rattle.rail_csv.specs.declared.refusal.TableRefusal.TheVariants.{BadNumber, OutOfRange, BadTime, BadName, BadWord}
use Rattle.rail_csv.specs.declared.rows.KindWord.{KindWord}
use Rattle.rail_csv.specs.declared.rows.KindWord.TheVariants as kinds
use Rattle.rules.specs.declared.records.End.{End}
use Rattle.rules.specs.declared.records.End.TheVariants as ends
use Rattle.rail_csv.specs.Fields.{is_number, number_of, is_time, time_of, pieces_of, numbers_of, is_unit}

-- the field of a column, and where the row's version has no such column, what stands for it
abbrev pub field_or : List ℕ → List (List ℕ) → ℕ → List ℕ
field_or missing fields column = slice_index_or fields column missing

-- the field of a column that every version has
abbrev pub field : List (List ℕ) → ℕ → List ℕ
field fields column = field_or [] fields column

-- a number from low to high
unfoldable pub number_column : ℕ → ℕ → ℕ → ℕ → List ℕ → Result ℕ TableRefusal
number_column low high row column text =
    if is_number text
    then (if nat_le low (number_of text) && nat_le (number_of text) high then Ok (number_of text)
    else Err (OutOfRange row column))
    else Err (BadNumber row column)

-- a time, as the minutes since the first midnight
unfoldable pub time_column : ℕ → ℕ → List ℕ → Result ℕ TableRefusal
time_column row column text = if is_time text then Ok (time_of text) else Err (BadTime row column)

-- a name
unfoldable pub name_column : ℕ → ℕ → List ℕ → Result (List ℕ) TableRefusal
name_column row column text = if is_name text then Ok text else Err (BadName row column)

-- a name, or nothing where the field is empty
unfoldable pub optional_name_column : ℕ → ℕ → List ℕ → Result (Option (List ℕ)) TableRefusal
optional_name_column row column [] = Ok None
optional_name_column row column (byte ∷ text) = do
  name ← name_column row column (byte ∷ text)
  Ok (Some name)

-- `turn`, `join` or `split`
unfoldable pub kind_column : ℕ → ℕ → List ℕ → Result KindWord TableRefusal
kind_column row column text =
    if bytes_eq text (codes "turn") then Ok kinds.Turn
    else if bytes_eq text (codes "join") then Ok kinds.Join
    else if bytes_eq text (codes "split") then Ok kinds.Split
    else Err (BadWord row column)

-- `yes` or `no`
unfoldable pub answer_column : ℕ → ℕ → List ℕ → Result Bool TableRefusal
answer_column row column text =
    if bytes_eq text (codes "yes") then Ok true
    else if bytes_eq text (codes "no") then Ok false
    else Err (BadWord row column)

-- `none`, `front` or `rear`
unfoldable pub end_column : ℕ → ℕ → List ℕ → Result End TableRefusal
end_column row column text =
    if bytes_eq text (codes "none") then Ok ends.None
    else if bytes_eq text (codes "front") then Ok ends.Front
    else if bytes_eq text (codes "rear") then Ok ends.Rear
    else Err (BadWord row column)

-- at most six units by number, with one space between two: first each piece is a number, and then they fit
unfoldable pub units_column : ℕ → ℕ → List ℕ → Result (List ℕ) TableRefusal
units_column row column text =
    if list_all is_number (pieces_of text)
    then (if nat_le (length (numbers_of text)) MAX_COMPOSITION_UNITS && list_all is_unit (numbers_of text)
    then Ok (numbers_of text)
    else Err (OutOfRange row column))
    else Err (BadNumber row column)
