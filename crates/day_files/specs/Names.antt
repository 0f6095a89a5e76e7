-- The names of files.
use Rattle.std.specs.Prelude.{ℕ, List, codes}
use Rattle.rail_csv.specs.declared.rows.Table.{Table}
use Rattle.rail_csv.specs.declared.rows.Table.TheVariants.{Types, Stations, Stock, Trips, Links, Weights, Plan}
use Rattle.day_files.specs.OneFile.{path_in}

-- the name of a table's file, without the folder
abbrev pub file_name : Table → List ℕ
file_name Types = codes "types.csv"
file_name Stations = codes "stations.csv"
file_name Stock = codes "stock.csv"
file_name Trips = codes "trips.csv"
file_name Links = codes "links.csv"
file_name Weights = codes "weights.csv"
file_name Plan = codes "plan.csv"

-- the path of a table's file in a folder
abbrev pub path_of : List ℕ → Table → List ℕ
path_of dir table = path_in dir (file_name table)
