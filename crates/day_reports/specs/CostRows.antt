-- The report of costs: the three parts and their sum.
use Rattle.std.specs.Prelude.{ℕ, List, [], ◌∷◌, codes, ℤ, pos}
use Rattle.std.specs.Fmt.{signed_decimal}
use Rattle.timetable.specs.Cost.{cost_of}
use Rattle.timetable.specs.Day.{Day}
use Rattle.cost_model.specs.declared.costs.CostParts.{CostParts}
use Rattle.cost_model.specs.Sums.{carriage_of, shortage_of, shunting_of}
use Rattle.day_reports.specs.Text.{Column, header_of, row_fields, rows_text}

-- what a row tells: a part of the cost, and its amount
pub record CostRow : Type 0 where
  pub part : List ℕ
  pub amount : ℤ

abbrev pub cost_columns : List (Column CostRow)
cost_columns =
    record { word = codes "part"; field = λ row. row.part }
    ∷ record { word = codes "amount"; field = λ row. signed_decimal row.amount }
    ∷ []

-- the fields of the row of an amount
abbrev pub amount_row : List ℕ → ℤ → List (List ℕ)
amount_row part amount = row_fields cost_columns (record { part = part; amount = amount })

-- the rows of three parts and of a total
abbrev pub amount_rows : CostParts → ℤ → List (List (List ℕ))
amount_rows parts total =
    amount_row (codes "carriage") parts.carriage.0
    ∷ amount_row (codes "shortage") parts.shortage.0
    ∷ amount_row (codes "shunting") parts.shunting.0
    ∷ amount_row (codes "total") total
    ∷ []

-- the three parts of the cost of a day whose trips have these lists of types
abbrev pub cost_parts : Day → List (List ℕ) → CostParts
cost_parts day lists = record {
  carriage = record { 0 = pos (carriage_of day lists) };
  shortage = record { 0 = pos (shortage_of day lists) };
  shunting = record { 0 = pos (shunting_of day lists) };
}

unfoldable pub costs_text : Day → List (List ℕ) → List ℕ
costs_text day lists = rows_text (header_of cost_columns ∷ amount_rows (cost_parts day lists) (pos (cost_of day lists)))
