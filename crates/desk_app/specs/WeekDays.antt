-- What the files of a folder say of a week.
use Rattle.std.specs.Prelude.{ℕ, ◌≡◌, ◌-◌, List, Option, Some, None}
use Rattle.rail_csv.specs.declared.rows.Table.TheVariants.{Types, Stations, Stock, Trips}
use Rattle.rail_io.specs.Folders.{Files}
use Rattle.timetable.specs.Day.{Day}
use Rattle.day_files.specs.declared.errors.Refusal.{Refusal}
use Rattle.day_files.specs.Texts.{refusal_file}
use Rattle.week_files.specs.WeekFiles.{AreDaysIn, IsFirstRefusedDay}
use Rattle.week_units.specs.declared.refusal.WeekRefusal.{WeekRefusal}
use Rattle.week_units.specs.declared.refusal.WeekRefusal.TheVariants.{TypesDiffer, StationsDiffer, NightDiffers}
use Rattle.week_units.specs.declared.refusal.WeekRefusal.TheVariants.{LateTrip, NoMemory}
use Rattle.week_units.specs.Weeks.{AreWeek, IsFirstFault}
use Rattle.desk_commands.specs.declared.week_planning.WeekPlanning.{WeekPlanning}
use Rattle.desk_app.specs.declared.files.DeskFile.{DeskFile}
use Rattle.desk_app.specs.declared.files.DeskFile.TheVariants.{OfDay}

-- the files of the days are accepted, and the days make a week
pub record AreWeekIn (files : Files) (planning : WeekPlanning) (days : List Day) : Type 0 where
  pub accepted : AreDaysIn files planning.dir planning.days days
  pub week : AreWeek days

-- the file that tells why days make no week: one of the day that doesn't go on from the day before, and where a trip is
-- late, that of the trips of the day before; want of memory tells of none
abbrev pub fault_file : WeekRefusal → Option DeskFile
fault_file (TypesDiffer day) = Some (OfDay day Types)
fault_file (StationsDiffer day) = Some (OfDay day Stations)
fault_file (NightDiffers day station unit_type end start) = Some (OfDay day Stock)
fault_file (LateTrip day trip) = Some (OfDay (day - 1) Trips)
fault_file NoMemory = None

-- A file is refused: one of the first day whose files are refused; or, where those of all days are accepted, the one
-- that tells the first reason why they make no week.
pub data IsRefusedForWeek (files : Files) (planning : WeekPlanning) (file : DeskFile) : Type 0 where
  OfReading : (number : ℕ) (why : Refusal) → IsFirstRefusedDay files planning.dir planning.days number why
      → file ≡ OfDay number (refusal_file why) → IsRefusedForWeek files planning file
  OfWeek : (days : List Day) (why : WeekRefusal) → AreDaysIn files planning.dir planning.days days
      → IsFirstFault days why → fault_file why ≡ Some file → IsRefusedForWeek files planning file
