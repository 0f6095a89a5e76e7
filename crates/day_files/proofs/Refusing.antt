-- A table that is refused is refused by what its bytes say.
use Rattle.std.proofs.Common.{◌≡◌, Bool, true, false, cond, Result, Err, ap}
use Rattle.rail_base.specs.Answers.{Fails, Unless}
use Rattle.rail_csv.specs.declared.rows.Table.{Table}
use Rattle.rail_csv.specs.declared.refusal.TableRefusal.{TableRefusal}
use Rattle.rail_csv.specs.Tables.{is_memory}
use Rattle.day_files.specs.declared.errors.Refusal.TheVariants.{WrongTable}
use Rattle.day_files.specs.declared.errors.ReadError.TheVariants.{Refused, NoMemory}
use Rattle.day_files.specs.Tables.{as_table}
use Rattle.day_files.specs.declared.tables.ReadTable.{ReadTable}
use Rattle.day_files.specs.Answers.{ReadsAs, error_of}

pub refused : {A : Type 0} (IsReached : Table → Type 0) (table : Table) (refusal : TableRefusal) (read : Result A TableRefusal) → Fails is_memory refusal read
    → ReadsAs {X = ReadTable A} (λ read. read.table) IsReached (Err (error_of table refusal)) (as_table table read)
refused {A = A} IsReached table refusal read = by_memory (is_memory refusal)
  where
    by_memory : (memory : Bool) → Unless memory (read ≡ Err refusal) → ReadsAs {X = ReadTable A} (λ read. read.table) IsReached (Err (cond memory NoMemory (Refused (WrongTable table refusal)))) (as_table table read)
    by_memory true h = tt
    by_memory false h = ap (as_table table) h
