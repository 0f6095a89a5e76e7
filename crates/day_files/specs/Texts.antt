-- The texts of refusals, and the file that each of them speaks of.
use Rattle.std.specs.Prelude.{ℕ, List, [], ◌++◌, codes}
use Rattle.std.specs.Fmt.{decimal}
use Rattle.rail_csv.specs.declared.rows.Table.{Table}
use Rattle.rail_csv.specs.declared.rows.Table.TheVariants.{Types, Stock, Trips, Links, Plan}
use Rattle.rail_csv.specs.declared.refusal.TableRefusal.{TableRefusal}
use Rattle.rail_csv.specs.declared.refusal.TableRefusal.TheVariants as wrong
use Rattle.day_tables.specs.declared.building.refusal.InstanceRefusal.{InstanceRefusal}
use Rattle.day_tables.specs.declared.building.refusal.InstanceRefusal.TheVariants as instance
use Rattle.day_tables.specs.declared.building.refusal.PlanRefusal.{PlanRefusal}
use Rattle.day_tables.specs.declared.building.refusal.PlanRefusal.TheVariants as plan
use Rattle.day_files.specs.declared.errors.Refusal.{Refusal}
use Rattle.day_files.specs.declared.errors.Refusal.TheVariants.{TooLong, WrongTable, NoDay, NoPlan}
use Rattle.rail_csv.specs.Tables.{column_name}

-- a text that begins with its row
abbrev pub at_row : ℕ → List ℕ → List ℕ
at_row row text = codes "row " ++ (decimal row ++ (codes ": " ++ text))

-- a text that begins with its row and the header word of its column
abbrev pub at_column : Table → ℕ → ℕ → List ℕ → List ℕ
at_column table row column text =
    codes "row " ++ (decimal row ++ (codes ", column " ++ (column_name table column ++ (codes ": " ++ text))))

-- what is wrong in a table; want of memory has no text
abbrev pub table_text : Table → TableRefusal → List ℕ
table_text table (wrong.NotUtf8 row) = codes "row " ++ (decimal row ++ codes " is not UTF-8")
table_text table wrong.WrongHeader = codes "wrong header"
table_text table (wrong.FieldCount row found) =
    codes "row " ++ (decimal row ++ (codes " has " ++ (decimal found ++ codes " fields")))
table_text table (wrong.BadNumber row column) = at_column table row column (codes "not a number")
table_text table (wrong.OutOfRange row column) = at_column table row column (codes "out of range")
table_text table (wrong.BadTime row column) = at_column table row column (codes "not a time")
table_text table (wrong.BadName row column) = at_column table row column (codes "not a name")
table_text table (wrong.BadWord row column) = at_column table row column (codes "not a word of this column")
table_text table wrong.TooManyRows = codes "too many rows"
table_text table wrong.NoRow = codes "no row"
table_text table wrong.NoMemory = []

-- why tables make no day; want of memory has no text
abbrev pub instance_text : InstanceRefusal → List ℕ
instance_text (instance.RepeatedName table row) = at_row row (codes "repeated name")
instance_text (instance.UnknownName table row column) = at_column table row column (codes "unknown name")
instance_text (instance.RepeatedStock row) = at_row row (codes "repeated station and type")
instance_text (instance.ArrivalNotAfterDeparture row) = at_row row (codes "arrival is not after departure")
instance_text (instance.SameStation row) = at_row row (codes "same station")
instance_text (instance.TripUsedTwice row) = at_row row (codes "trip used twice")
instance_text (instance.WrongStation row) = at_row row (codes "trips do not meet at a station")
instance_text (instance.TooEarly row) = at_row row (codes "departure before arrival")
instance_text (instance.WrongLinkFields row) = at_row row (codes "fields do not fit the kind")
instance_text (instance.NoComposition row) = at_row row (codes "no composition fits")
instance_text instance.TooManyUnits = codes "too many units"
instance_text instance.TooManyCompositions = codes "too many compositions"
instance_text instance.NoMemory = []

-- the table that such a refusal speaks of; of want of memory it is never asked for
abbrev pub instance_file : InstanceRefusal → Table
instance_file (instance.RepeatedName table row) = table
instance_file (instance.UnknownName table row column) = table
instance_file (instance.RepeatedStock row) = Stock
instance_file (instance.ArrivalNotAfterDeparture row) = Trips
instance_file (instance.SameStation row) = Trips
instance_file (instance.TripUsedTwice row) = Links
instance_file (instance.WrongStation row) = Links
instance_file (instance.TooEarly row) = Links
instance_file (instance.WrongLinkFields row) = Links
instance_file (instance.NoComposition row) = Trips
instance_file instance.TooManyUnits = Stock
instance_file instance.TooManyCompositions = Types
instance_file instance.NoMemory = Types

-- why rows make no plan of the day; want of memory has no text
abbrev pub plan_text : PlanRefusal → List ℕ
plan_text (plan.WrongTrip row) = at_row row (codes "wrong trip")
plan_text (plan.UnknownUnit row) = at_row row (codes "unknown unit")
plan_text (plan.MissingTrip row) = codes "trip missing after row " ++ decimal row
plan_text plan.NoMemory = []

-- why a file is refused
abbrev pub refusal_text : Refusal → List ℕ
refusal_text (TooLong table) = codes "too long"
refusal_text (WrongTable table refusal) = table_text table refusal
refusal_text (NoDay refusal) = instance_text refusal
refusal_text (NoPlan refusal) = plan_text refusal

-- the table whose file is refused
abbrev pub refusal_file : Refusal → Table
refusal_file (TooLong table) = table
refusal_file (WrongTable table refusal) = table
refusal_file (NoDay refusal) = instance_file refusal
refusal_file (NoPlan refusal) = Plan
