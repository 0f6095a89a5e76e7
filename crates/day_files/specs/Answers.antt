-- What a call that reads a folder answers.
use Rattle.std.specs.Prelude.{ℕ, ◌≡◌, ◌≤◌, List, length, Bool, true, false, IsTrue, if◌then◌else◌, Result, Ok, Err, ⊤}
use Rattle.rail_base.specs.declared.limits.TheConstants.{MAX_TABLE_BYTES}
use Rattle.rail_io.specs.Folders.{FolderState, Rose, RosePast}
use Rattle.rail_csv.specs.declared.rows.PlanRow.{PlanRow}
use Rattle.rail_csv.specs.declared.rows.Table.{Table}
use Rattle.rail_csv.specs.declared.rows.Table.TheVariants.{Plan}
use Rattle.day_tables.specs.declared.building.tables.Tables.{Tables}
use Rattle.timetable.specs.Day.{Day}
use Rattle.timetable.specs.Build as build
pub use Rattle.timetable.specs.DayTables.{IsWrong}
use Rattle.timetable.specs.Build.{day_of}
use Rattle.timetable.specs.Plans as plans
use Rattle.timetable.specs.Plans.{plan_of}
use Rattle.day_files.specs.declared.errors.Refusal.{Refusal}
use Rattle.day_files.specs.declared.errors.Refusal.TheVariants.{TooLong, WrongTable, NoDay, NoPlan}
use Rattle.day_files.specs.declared.errors.ReadError.{ReadError}
use Rattle.day_files.specs.declared.errors.ReadError.TheVariants.{CannotRead, Refused, NoMemory}
use Rattle.rail_csv.specs.declared.refusal.TableRefusal.{TableRefusal}
use Rattle.rail_csv.specs.Rows.{ArePlanRows}
use Rattle.rail_csv.specs.Tables.{is_memory}
use Rattle.day_files.specs.Names.{path_of}
use Rattle.day_files.specs.Tables.{reading, AreTables, IsMadeDay}

-- A call reads what the files hold: of what it answers this part is theirs, and its refusal too. A file that could not
-- be read is one that is reached. Want of memory says nothing of the files.
abbrev pub ReadsAs : {X Y : Type 0} → (X → Y) → (Table → Type 0) → Result X ReadError → Result Y Refusal → Type 0
ReadsAs part IsReached (Ok x) said = said ≡ Ok (part x)
ReadsAs part IsReached (Err (Refused why)) said = said ≡ Err why
ReadsAs part IsReached (Err (CannotRead table)) said = IsReached table
ReadsAs part IsReached (Err NoMemory) said = ⊤

-- and its whole answer is theirs
abbrev pub Reads : {Y : Type 0} → (Table → Type 0) → Result Y ReadError → Result Y Refusal → Type 0
Reads IsReached read said = ReadsAs (λ y. y) IsReached read said

-- What an error says of the folder before and after. A file could not be read only where the count of faults rose and a
-- read of it may fail. A file was too long only where more bytes were taken than a table may have, or the count of them
-- was at 2^63.
abbrev pub IsCaused : List ℕ → FolderState → FolderState → ReadError → Type 0
IsCaused dir before after (CannotRead table) =
    Rose before.faults after.faults × IsTrue (before.may_fail (path_of dir table))
IsCaused dir before after (Refused (TooLong table)) = RosePast MAX_TABLE_BYTES before.taken after.taken
IsCaused dir before after _ = ⊤

-- whether an error is that a file could not be read
abbrev pub is_unread : ReadError → Bool
is_unread (CannotRead table) = true
is_unread (Refused why) = false
is_unread NoMemory = false

-- bytes that are no longer than a table may be, and of which the reader of the table gives this refusal
pub record IsTableRefusal (table : Table) (bytes : List ℕ) (why : TableRefusal) : Type 0 where
  pub few : length bytes ≤ MAX_TABLE_BYTES
  pub read : reading table bytes ≡ Err why

-- What an error says whatever the folder tells, where a call reads these tables: a file that could not be read, that is
-- too long or that is refused as it stands, is one of theirs; of a refusal but that of a file that is too long, some
-- bytes are no such table, some tables make no day, or some rows no plan of a day that tables make, for the reason that
-- is told, where rows keep within the ranges of their columns; and no refusal is want of memory. Want of memory says
-- nothing.
abbrev pub IsErrorOf : (Table → Type 0) → ReadError → Type 0
IsErrorOf AreRead (CannotRead table) = AreRead table
IsErrorOf AreRead (Refused (TooLong table)) = AreRead table
IsErrorOf AreRead (Refused (WrongTable table why)) =
    AreRead table × (is_memory why ≡ false) × (bytes : List ℕ) × IsTableRefusal table bytes why
IsErrorOf AreRead (Refused (NoDay why)) =
    (build.is_memory why ≡ false) × (tables : Tables) × AreTables tables × (day_of tables ≡ Err why)
IsErrorOf AreRead (Refused (NoPlan why)) =
    AreRead Plan × (plans.is_memory why ≡ false) × (day : Day) × IsMadeDay day × (rows : List PlanRow)
    × ArePlanRows rows × (plan_of day rows ≡ Err why)
IsErrorOf AreRead NoMemory = ⊤

-- what the refusal of a table comes to
abbrev pub error_of : Table → TableRefusal → ReadError
error_of table refusal = if is_memory refusal then NoMemory else Refused (WrongTable table refusal)

-- an error that no read has a part in: the tables make no day, the rows no plan, or memory ran out
abbrev pub IsMade : ReadError → Type 0
IsMade (Refused (NoDay why)) = ⊤
IsMade (Refused (NoPlan why)) = ⊤
IsMade NoMemory = ⊤
IsMade _ = ⊥
