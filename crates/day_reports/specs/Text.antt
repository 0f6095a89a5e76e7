-- The text of a report: its columns, and its rows, one after another, each a list of fields.
use Rattle.std.specs.Prelude.{ℕ, List, map}
use Rattle.std.specs.List.{flat_map}
use Rattle.csv.specs.Writing.{default_writer, row_text}

-- a column of a report: its word in the header, and its field in a row
pub record Column (Row : Type 0) : Type 0 where
  pub word : List ℕ
  pub field : Row → List ℕ

-- the header: the words of all columns
abbrev pub header_of : {Row : Type 0} → List (Column Row) → List (List ℕ)
header_of columns = map (λ column. column.word) columns

-- the fields of a row: those of all columns
abbrev pub row_fields : {Row : Type 0} → List (Column Row) → Row → List (List ℕ)
row_fields columns row = map (λ column. column.field row) columns

-- A row as a line of comma-separated values: its fields with a comma between two, and a line feed. A field that has a
-- comma, a quote or an end of a line stands in quotes, with each quote in it twice; so does an empty field that is the
-- only one of its row.
abbrev pub line_of : List (List ℕ) → List ℕ
line_of fields = row_text default_writer fields

unfoldable pub rows_text : List (List (List ℕ)) → List ℕ
rows_text rows = flat_map line_of rows
