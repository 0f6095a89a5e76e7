-- Each report as a whole: its first line, and the blocks of rows below it.
use Rattle.std.proofs.Common.{◌≡◌, ◌∙◌, ℕ, List, [], ◌∷◌, ◌++◌, length, map, refl, ap}
use Rattle.std.specs.Prelude.{codes}
use Rattle.std.specs.Fmt.{decimal}
use Rattle.std.proofs.lemmas.List.Concat.{flat_map-append}
use Rattle.csv.specs.Reading.{strip_bom}
use Rattle.csv.specs.Writing.{fields_text, is_blank, read_back}
use Rattle.cost_model.specs.Sums.{carriage_of, shortage_of, shunting_of}
use Rattle.timetable.specs.Cost.{cost_of}
use Rattle.timetable.specs.Day.{Day, unit_count}
use Rattle.timetable.specs.Lists.{joined, listed}
use Rattle.timetable.proofs.Listing.{length-listed, get_listed}
use Rattle.unit_duties.specs.declared.stops.Stop.{Stop}
use Rattle.unit_duties.specs.Stops.{stops_of}
use Rattle.day_reports.specs.CostRows.{costs_text}
use Rattle.day_reports.specs.DutyRows.{duties_text, duty_columns, duty_rows, stop_row}
use Rattle.day_reports.specs.Layouts.{Block, DutiesAreByUnit, YardsAreByStation, CostsAreByPart}
use Rattle.day_reports.specs.Text.{header_of, line_of, rows_text}
use Rattle.day_reports.specs.YardRows.{fields_of_station, fields_of_yard, yard_columns, yard_fields, yard_rows, yards_text}
use Rattle.day_reports.proofs.Blocks.{of_listed, of_rows_listed, length-rows_listed, get_rows_listed}
use Rattle.day_reports.proofs.PlainNumbers.{amount_line}
use Rattle.day_reports.proofs.ReadRows.{rows_read, same_joined, same_rows}

same_duty : (day : Day) (u : ℕ) (stops : List Stop) → map read_back (duty_rows day u stops) ≡ duty_rows day u stops
same_duty day u [] = refl
same_duty day u (stop ∷ stops) = same_rows (stop_row day u) (λ stop. refl) (stop ∷ stops)

pub duties_are_by_unit : DutiesAreByUnit
unfolding duties_text rows_text fields_text is_blank strip_bom
duties_are_by_unit day plan =
    let rows : ℕ → Block = λ u. duty_rows day u (stops_of day plan u) in
    let header : List (List ℕ) = header_of duty_columns in (
      listed rows (unit_count day),
      record {
        text = record {
          written = ap (λ (text : List ℕ). line_of header ++ text) (of_listed rows_text refl (flat_map-append line_of) rows (unit_count day));
          read = rows_read (header ∷ joined rows (unit_count day))
              ∙ ap (λ (below : Block). header ∷ below) (same_joined rows (unit_count day) (λ u. same_duty day u (stops_of day plan u)) ∙ of_listed (λ (block : Block). block) refl (λ xs ys. refl) rows (unit_count day));
        };
        count = length-listed rows (unit_count day);
        unit = get_listed rows (unit_count day);
      },
    )

pub yards_are_by_station : YardsAreByStation
unfolding yards_text rows_text fields_text is_blank strip_bom
yards_are_by_station day lists =
    let rows : ℕ → ℕ → Block = λ s m. fields_of_yard (record { day = day; lists = lists; station = s; unit_type = m }) in
    let types : ℕ = length day.types in
    let stations : ℕ = length day.stations in
    let header : List (List ℕ) = header_of yard_columns in
    let same : (s m : ℕ) → map read_back (rows s m) ≡ rows s m = λ s m.
    same_rows (yard_fields (record { day = day; lists = lists; station = s; unit_type = m })) (λ row. refl) (yard_rows (record { day = day; lists = lists; station = s; unit_type = m })) in (
      joined (λ s. listed (rows s) types) stations,
      record {
        text = record {
          written = ap (λ (text : List ℕ). line_of header ++ text) (of_rows_listed rows_text refl (flat_map-append line_of) rows types stations);
          read = rows_read (header ∷ joined (fields_of_station day lists) stations)
              ∙ ap (λ (below : Block). header ∷ below) (same_joined (fields_of_station day lists) stations (λ s. same_joined (rows s) types (same s)) ∙ of_rows_listed (λ (block : Block). block) refl (λ xs ys. refl) rows types stations);
        };
        count = length-rows_listed rows types stations;
        yard = get_rows_listed rows types stations;
      },
    )

pub costs_are_by_part : CostsAreByPart
unfolding costs_text rows_text fields_text is_blank
costs_are_by_part day lists =
    let carriage : ℕ = carriage_of day lists in
    let shortage : ℕ = shortage_of day lists in
    let shunting : ℕ = shunting_of day lists in
    let total : ℕ = cost_of day lists in
    let head : List ℕ = codes "part,amount\n" in
    let line : List ℕ → ℕ → List ℕ → List ℕ = λ part n rest. part ++ (44 ∷ (decimal n ++ (10 ∷ rest))) in
    ap (λ (t : List ℕ). head ++ t) (amount_line (codes "carriage") carriage _ refl)
    ∙ ap (λ (t : List ℕ). head ++ line (codes "carriage") carriage t) (amount_line (codes "shortage") shortage _ refl)
    ∙ ap (λ (t : List ℕ). head ++ line (codes "carriage") carriage (line (codes "shortage") shortage t)) (amount_line (codes "shunting") shunting _ refl)
    ∙ ap (λ (t : List ℕ). head ++ line (codes "carriage") carriage (line (codes "shortage") shortage (line (codes "shunting") shunting t))) (amount_line (codes "total") total [] refl)
