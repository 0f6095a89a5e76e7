-- The days of a week in a folder: each lies in a folder of its own, which is called by the number of the day, counted
-- from 1.
use Rattle.std.specs.Prelude.{ℕ, suc, ◌≡◌, ◌≢◌, ◌<◌, ◌≤◌, List, [], ◌∷◌, length, Bool, Result, Ok, Err, ⊤}
use Rattle.std.specs.Fmt.{decimal}
use Rattle.std.specs.Global.{Vec}
use Rattle.rail_csv.specs.declared.rows.Table.TheVariants.{Plan}
use Rattle.rail_io.specs.Folders.{Files, FolderState}
use Rattle.timetable.specs.Day.{Day}
use Rattle.day_files.specs.declared.errors.Refusal.{Refusal}
use Rattle.day_files.specs.declared.errors.ReadError.TheVariants.{NoMemory}
use Rattle.day_files.specs.OneFile.{path_in}
use Rattle.day_files.specs.Inputs.{day_in}
use Rattle.day_files.specs.Order.{Reaches}
use Rattle.day_files.specs.Answers.{IsCaused, IsErrorOf, Reads, is_unread}
use Rattle.week_files.specs.declared.error.DayError.{DayError}

-- the folder of the day of this number
abbrev pub day_folder : List ℕ → ℕ → List ℕ
day_folder dir number = path_in dir (decimal number)

-- ---- days that are accepted

-- the files of the day of this number are accepted as some day
abbrev pub HasDay : Files → List ℕ → ℕ → Type 0
HasDay files dir number = (day : Day) × (day_in files (day_folder dir number) ≡ Ok day)

-- so are those of each day before it
abbrev pub HaveDaysBefore : Files → List ℕ → ℕ → Type 0
HaveDaysBefore files dir number = (earlier : ℕ) → 1 ≤ earlier → earlier < number → HasDay files dir earlier

-- the files of the days from this number on are accepted as these days
abbrev pub AreDaysFrom : Files → List ℕ → ℕ → List Day → Type 0
AreDaysFrom files dir number [] = ⊤
AreDaysFrom files dir number (day ∷ days) =
    (day_in files (day_folder dir number) ≡ Ok day) × AreDaysFrom files dir (suc number) days

-- The files of the first so many days are accepted as these days.
pub record AreDaysIn (files : Files) (dir : List ℕ) (count : ℕ) (days : List Day) : Type 0 where
  pub as_many : length days ≡ count
  pub each : AreDaysFrom files dir 1 days

-- ---- the first day that is refused

-- Of so many days this is the first whose files are refused, and this is why.
pub record IsFirstRefusedDay (files : Files) (dir : List ℕ) (count number : ℕ) (why : Refusal) : Type 0 where
  pub from_one : 1 ≤ number
  pub within : number ≤ count
  pub before : HaveDaysBefore files dir number
  pub refused : day_in files (day_folder dir number) ≡ Err why

-- ---- what a call that reads days answers

-- the day of this number is read
abbrev pub ReadsDay : Files → List ℕ → ℕ → Result Day DayError → Type 0
ReadsDay files dir number (Ok day) = day_in files (day_folder dir number) ≡ Ok day
ReadsDay files dir number (Err error) =
    Reads {Y = Day} (Reaches files (day_folder dir number)) (Err error.error) (day_in files (day_folder dir number))

-- the reading ended at a day, whose files it tells of: each day before it is accepted
pub record IsEndedAt (files : Files) (dir : List ℕ) (error : DayError) : Type 0 where
  pub before : HaveDaysBefore files dir error.day
  pub told : ReadsDay files dir error.day (Err error)

-- the first so many days are read, or one of them ends the reading
abbrev pub ReadsDays : Files → List ℕ → ℕ → Result (Vec Day) DayError → Type 0
ReadsDays files dir count (Ok days) = AreDaysIn files dir count days.items
ReadsDays files dir count (Err error) = IsEndedAt files dir error

-- ---- what an error says, whatever the folder tells

-- it is the error of one of so many days, and of one of its six tables
pub record IsErrorAt (count : ℕ) (error : DayError) : Type 0 where
  pub from_one : 1 ≤ error.day
  pub within : error.day ≤ count
  pub says : IsErrorOf (λ table. table ≢ Plan) error.error

-- it has its cause
abbrev pub IsCausedAt : List ℕ → FolderState → FolderState → DayError → Type 0
IsCausedAt dir before after error = IsCaused (day_folder dir error.day) before after error.error

-- whether it is that a file could not be read
abbrev pub is_day_unread : DayError → Bool
is_day_unread error = is_unread error.error

-- memory ran out at the day of this number
abbrev pub IsWantOfMemory : ℕ → DayError → Type 0
IsWantOfMemory number error = (error.day ≡ number) × (error.error ≡ NoMemory)
