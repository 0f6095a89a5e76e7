-- The report of duties: for each unit by number, one row for each trip of its duty.
use Rattle.std.specs.Prelude.{ℕ, List, [], ◌∷◌, Option, Some, None, map, codes}
use Rattle.std.specs.Option.{option_map_or}
use Rattle.std.specs.Fmt.{decimal}
use Rattle.rail_base.specs.Times.{clock_text}
use Rattle.timetable.specs.Day.{Day, leaves, arrives, from_of, to_of, home_of, type_of, unit_count}
use Rattle.timetable.specs.Lists.{joined}
use Rattle.unit_duties.specs.declared.stops.Stop.{Stop}
use Rattle.unit_duties.specs.Stops.{stops_of}
use Rattle.day_reports.specs.Named.{type_name, station_name, trip_name}
use Rattle.day_reports.specs.Text.{Column, header_of, row_fields, rows_text}

-- what a row tells of: a unit, and a trip of its duty, or none where it has none
pub record DutyRow : Type 0 where
  pub day : Day
  pub unit : ℕ
  pub stop : Option Stop

-- a field that tells of the trip, and is empty where there is none
abbrev pub of_stop : (Day → Stop → List ℕ) → DutyRow → List ℕ
of_stop field row = option_map_or (field row.day) row.stop []

-- The unit, with its type and its home; then the trip: from where and when, to where and when, and the place of the
-- unit in the train, counted from 0 at the front.
abbrev pub duty_columns : List (Column DutyRow)
duty_columns =
    record { word = codes "unit"; field = λ row. decimal row.unit }
    ∷ record { word = codes "type"; field = λ row. type_name row.day (type_of row.day row.unit) }
    ∷ record { word = codes "home"; field = λ row. station_name row.day (home_of row.day row.unit) }
    ∷ record { word = codes "trip"; field = of_stop (λ day stop. trip_name day stop.trip) }
    ∷ record { word = codes "from"; field = of_stop (λ day stop. station_name day (from_of day stop.trip)) }
    ∷ record { word = codes "departure"; field = of_stop (λ day stop. clock_text (leaves day stop.trip)) }
    ∷ record { word = codes "to"; field = of_stop (λ day stop. station_name day (to_of day stop.trip)) }
    ∷ record { word = codes "arrival"; field = of_stop (λ day stop. clock_text (arrives day stop.trip)) }
    ∷ record { word = codes "position"; field = of_stop (λ day stop. decimal stop.position) }
    ∷ []

-- the fields of the row of a unit on a trip
abbrev pub stop_row : Day → ℕ → Stop → List (List ℕ)
stop_row day u stop = row_fields duty_columns (record { day = day; unit = u; stop = Some stop })

-- those of the row of a unit without a trip
abbrev pub idle_row : Day → ℕ → List (List ℕ)
idle_row day u = row_fields duty_columns (record { day = day; unit = u; stop = None })

-- those of all rows of a unit with these stops
abbrev pub duty_rows : Day → ℕ → List Stop → List (List (List ℕ))
duty_rows day u [] = idle_row day u ∷ []
duty_rows day u (stop ∷ stops) = map (stop_row day u) (stop ∷ stops)

-- of all units
unfoldable pub duties_text : Day → List (List ℕ) → List ℕ
duties_text day plan =
    rows_text (header_of duty_columns ∷ joined (λ u. duty_rows day u (stops_of day plan u)) (unit_count day))
