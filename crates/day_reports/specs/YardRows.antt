-- The report of yards: for each station and each type, what is taken, what becomes ready, and how many units stand
-- there.
use Rattle.std.specs.Prelude.{ℕ, List, [], ◌∷◌, length, Bool, true, ◌==◌, ◌&&◌, if◌then◌else◌, nat_lt, nat_le, codes}
use Rattle.std.specs.Prelude.{Option, Some, None, ℤ, pos, map}
use Rattle.std.specs.Fmt.{decimal, signed_decimal}
use Rattle.rail_base.specs.Times.{clock_text}
use Rattle.timetable.specs.Day.{Day, leaves, from_of, to_of, ready_at}
use Rattle.timetable.specs.Lists.{sum_below, joined}
use Rattle.timetable.specs.Minutes.{minutes_of}
use Rattle.timetable.specs.Starts.{start_of}
use Rattle.inventory.specs.Counts.{takes_of, gives_of, count_at, end_count_of}
use Rattle.day_reports.specs.Named.{type_name, station_name}
use Rattle.day_reports.specs.Text.{Column, header_of, row_fields, rows_text}

-- the units of one type in the yard of a station, on a day whose trips have these lists of types
pub record YardOf : Type 0 where
  pub day : Day
  pub lists : List (List ℕ)
  pub station : ℕ
  pub unit_type : ℕ

-- ---- what is taken, and what becomes ready

-- units that a trip takes at a minute, and that all trips take then
abbrev pub takes_at : YardOf → ℕ → ℕ → ℕ
takes_at yard minute t =
    if (from_of yard.day t == yard.station) && (leaves yard.day t == minute)
    then takes_of yard.day yard.lists yard.unit_type t
    else 0

unfoldable pub taken_at : YardOf → ℕ → ℕ
taken_at yard minute = sum_below (takes_at yard minute) (length yard.day.trips)

-- later than a minute, or at any minute where no minute is given
abbrev pub is_later : Option ℕ → ℕ → Bool
is_later None ready = true
is_later (Some minute) ready = nat_lt minute ready

-- at a minute or earlier, or at any minute where no minute is given
abbrev pub is_no_later : Option ℕ → ℕ → Bool
is_no_later None ready = true
is_no_later (Some minute) ready = nat_le ready minute

-- units that a trip gives and that become ready after one minute and by another, and those of all trips
abbrev pub gives_between : YardOf → Option ℕ → Option ℕ → ℕ → ℕ
gives_between yard after by t =
    if (to_of yard.day t == yard.station)
    && (is_later after (ready_at yard.day t) && is_no_later by (ready_at yard.day t))
    then gives_of yard.day yard.lists yard.unit_type t
    else 0

unfoldable pub ready_between : YardOf → Option ℕ → Option ℕ → ℕ
ready_between yard after by = sum_below (gives_between yard after by) (length yard.day.trips)

-- ---- the rows of a yard

-- what a row tells: its time, the units that are taken, those that became ready, and those that stand there
pub record YardRow : Type 0 where
  pub time : List ℕ
  pub taken : ℕ
  pub ready : ℕ
  pub count : ℤ

-- how many stand there at the start
abbrev pub start_row : YardOf → YardRow
start_row yard =
    record { time = codes "start"; taken = 0; ready = 0; count = pos (start_of yard.day yard.station yard.unit_type) }

-- what is taken at a departure minute, what became ready since the minute of the row before, and how many stand there
-- after the takes
abbrev pub minute_row : YardOf → Option ℕ → ℕ → YardRow
minute_row yard since minute = record {
  time = clock_text minute;
  taken = taken_at yard minute;
  ready = ready_between yard since (Some minute);
  count = count_at yard.day yard.lists yard.station yard.unit_type minute;
}

-- what becomes ready after the last departure minute, and how many stand there at the end
abbrev pub end_row : YardOf → Option ℕ → YardRow
end_row yard since = record {
  time = codes "end";
  taken = 0;
  ready = ready_between yard since None;
  count = end_count_of yard.day yard.lists yard.station yard.unit_type;
}

-- the rows of departure minutes and of the end, behind a row of a minute, or behind the row of the start, which has
-- none
abbrev pub rows_after : YardOf → Option ℕ → List ℕ → List YardRow
rows_after yard since [] = end_row yard since ∷ []
rows_after yard since (minute ∷ minutes) = minute_row yard since minute ∷ rows_after yard (Some minute) minutes

abbrev pub yard_rows : YardOf → List YardRow
yard_rows yard = start_row yard ∷ rows_after yard None (minutes_of yard.day yard.station)

-- ---- the text

-- a row of a yard
pub record RowOfYard : Type 0 where
  pub yard : YardOf
  pub row : YardRow

abbrev pub yard_columns : List (Column RowOfYard)
yard_columns =
    record { word = codes "station"; field = λ it. station_name it.yard.day it.yard.station }
    ∷ record { word = codes "type"; field = λ it. type_name it.yard.day it.yard.unit_type }
    ∷ record { word = codes "time"; field = λ it. it.row.time }
    ∷ record { word = codes "taken"; field = λ it. decimal it.row.taken }
    ∷ record { word = codes "ready"; field = λ it. decimal it.row.ready }
    ∷ record { word = codes "count"; field = λ it. signed_decimal it.row.count }
    ∷ []

-- the fields of a row of a yard
abbrev pub yard_fields : YardOf → YardRow → List (List ℕ)
yard_fields yard row = row_fields yard_columns (record { yard = yard; row = row })

-- those of all rows of a type at a station
abbrev pub fields_of_yard : YardOf → List (List (List ℕ))
fields_of_yard yard = map (yard_fields yard) (yard_rows yard)

-- those of all rows of a station, type by type
abbrev pub fields_of_station : Day → List (List ℕ) → ℕ → List (List (List ℕ))
fields_of_station day lists s =
    joined (λ m. fields_of_yard (record { day = day; lists = lists; station = s; unit_type = m })) (length day.types)

-- the header, and all rows, station by station, where the trips have these lists of types
unfoldable pub yards_text : Day → List (List ℕ) → List ℕ
yards_text day lists = rows_text (header_of yard_columns ∷ joined (fields_of_station day lists) (length day.stations))
