-- Each report as a whole: its first line, and which rows stand where below it.
use Rattle.std.specs.Prelude.{ℕ, ◌+◌, ◌*◌, ◌≡◌, ◌<◌, List, ◌∷◌, ◌++◌, length, slice_get, Some, codes}
use Rattle.std.specs.Fmt.{decimal}
use Rattle.std.specs.List.{flat_map}
use Rattle.rail_csv.specs.Tables.{records_of}
use Rattle.timetable.specs.Cost.{cost_of}
use Rattle.timetable.specs.Day.{Day, unit_count}
use Rattle.cost_model.specs.Sums.{carriage_of, shortage_of, shunting_of}
use Rattle.unit_duties.specs.Stops.{stops_of}
use Rattle.day_reports.specs.Text.{header_of, rows_text}
use Rattle.day_reports.specs.DutyRows.{duty_columns, duty_rows, duties_text}
use Rattle.day_reports.specs.YardRows.{fields_of_yard, yard_columns, yards_text}
use Rattle.day_reports.specs.CostRows.{costs_text}

-- rows that stand together in a report, each a list of fields
abbrev pub Block : Type 0
Block = List (List (List ℕ))

-- The text is this first line, and then the lines of the rows of these blocks, one block after another. Read by the
-- rule of the tables of a day it is again this header and these rows, field by field.
pub record IsInBlocks (line : List ℕ) (header : List (List ℕ)) (blocks : List Block) (text : List ℕ) : Type 0 where
  pub written : text ≡ line ++ flat_map rows_text blocks
  pub read : records_of text ≡ header ∷ flat_map (λ block. block) blocks

-- The report of duties has a block for each unit, at the place of its number, with the rows of its duty.
pub record IsByUnit (day : Day) (plan : List (List ℕ)) (blocks : List Block) : Type 0 where
  pub text : IsInBlocks (codes "unit,type,home,trip,from,departure,to,arrival,position\n") (header_of duty_columns)
      blocks (duties_text day plan)
  pub count : length blocks ≡ unit_count day
  pub unit : (u : ℕ) → u < unit_count day → slice_get blocks u ≡ Some (duty_rows day u (stops_of day plan u))

-- of every day and every plan
abbrev pub DutiesAreByUnit : Type 0
DutiesAreByUnit = (day : Day) (plan : List (List ℕ)) → (blocks : List Block) × IsByUnit day plan blocks

-- The report of yards has a block for each station and type, with its rows: behind those of all types at the stations
-- before, and behind those of the types before at its own station.
pub record IsByStation (day : Day) (lists : List (List ℕ)) (blocks : List Block) : Type 0 where
  pub text : IsInBlocks (codes "station,type,time,taken,ready,count\n") (header_of yard_columns)
      blocks (yards_text day lists)
  pub count : length blocks ≡ length day.stations * length day.types
  pub yard : (s m : ℕ) → s < length day.stations → m < length day.types
      → slice_get blocks (s * length day.types + m)
      ≡ Some (fields_of_yard (record { day = day; lists = lists; station = s; unit_type = m }))

-- of every day and all lists of types
abbrev pub YardsAreByStation : Type 0
YardsAreByStation = (day : Day) (lists : List (List ℕ)) → (blocks : List Block) × IsByStation day lists blocks

-- the report of costs byte for byte, of every day and all lists of types
abbrev pub CostsAreByPart : Type 0
CostsAreByPart = (day : Day) (lists : List (List ℕ)) → costs_text day lists
    ≡ codes "part,amount\ncarriage," ++ (decimal (carriage_of day lists)
    ++ (codes "\nshortage," ++ (decimal (shortage_of day lists)
    ++ (codes "\nshunting," ++ (decimal (shunting_of day lists)
    ++ (codes "\ntotal," ++ (decimal (cost_of day lists) ++ codes "\n")))))))
