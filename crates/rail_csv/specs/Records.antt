-- The records that csv still has to read.
use Rattle.std.specs.Prelude.{◌≡◌, ◌<◌, ◌≤◌, ◌+◌, ◌^◌, ℕ, List, [], ◌∷◌, length, true, Option, Some, unwrap_or}
use Rattle.std.specs.Borrow.{Bor}
use Rattle.csv.specs.Reading.{records_from, default_config, source_of, Ready, reader_trim, reader_config, reader_state}
use Rattle.csv.specs.Reading.{is_flexible, owned_rows_reader, owned_rows_left}
use Rattle.csv.specs.declared.parser.State.{State}
use Rattle.csv.specs.declared.reader.Trim.TheVariants as trim
use Rattle.rail_base.specs.declared.limits.TheConstants.{MAX_TABLE_BYTES}
use Rattle.csv.specs.declared.iter.ByteRecordsIntoIter.{ByteRecordsIntoIter}

-- the records of a text, from a state
abbrev pub rest_of : State → List ℕ → List (List (List ℕ))
rest_of state text = records_from default_config (length text + 1) state text

-- an iterator of the records of a slice
abbrev pub Records : Type 0
Records = ByteRecordsIntoIter (Bor (List ℕ))

-- what a slice has to read
abbrev pub unread : Bor (List ℕ) → Option (List ℕ)
unread source = Some source.now

-- the text that is left
abbrev pub text_left : Records → List ℕ
text_left records = unwrap_or (source_of unread (owned_rows_reader records)) []

-- the records that are left
abbrev pub records_left : Records → List (List (List ℕ))
records_left records = rest_of (reader_state (owned_rows_reader records)) (text_left records)

-- the records are read as they stand, of any number of fields each, from a text that is known and as short as a table
pub record ReadsOn (records : Records) : Type 0 where
  pub flexible : is_flexible (owned_rows_reader records) ≡ true
  pub trim : reader_trim (owned_rows_reader records) ≡ trim.None
  pub ready : Ready (owned_rows_reader records)
  pub turns : 0 < owned_rows_left records
  pub config : reader_config (owned_rows_reader records) ≡ default_config
  pub source : source_of unread (owned_rows_reader records) ≡ Some (text_left records)
  pub small : length (text_left records) ≤ MAX_TABLE_BYTES

-- a record was read: the first of those that were left
pub record Took (before after : Records) (fields : List (List ℕ)) : Type 0 where
  pub next : ReadsOn after
  pub first : records_left before ≡ fields ∷ records_left after
  pub few : length fields < 2 ^ 32
