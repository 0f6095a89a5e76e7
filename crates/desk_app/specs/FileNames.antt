-- The names of the files that the desk reads.
use Rattle.std.specs.Prelude.{ℕ, List, codes}
use Rattle.std.specs.Fmt.{decimal}
use Rattle.day_files.specs.Names.{file_name, path_of}
use Rattle.desk_app.specs.declared.files.DeskFile.{DeskFile}
use Rattle.desk_app.specs.declared.files.DeskFile.TheVariants.{CancelledTrips, OfDay, OfTable, Prices, UrgentUnits}

-- the table of urgent units
abbrev pub urgent_file : List ℕ
urgent_file = codes "urgent.csv"

-- the table of cancelled trips
abbrev pub cancelled_file : List ℕ
cancelled_file = codes "cancelled.csv"

-- the table of prices
abbrev pub prices_file : List ℕ
prices_file = codes "fleet.csv"

-- the name of a file, without the folder; that of a day of a week is its path below the folder of the week
abbrev pub name_of : DeskFile → List ℕ
name_of (OfTable table) = file_name table
name_of UrgentUnits = urgent_file
name_of CancelledTrips = cancelled_file
name_of Prices = prices_file
name_of (OfDay day table) = path_of (decimal day) table
