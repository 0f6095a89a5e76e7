use Rattle.std.proofs.Common.{◌∙◌, ap, ◌++◌, ◌∷◌, [], List, ℕ}
use Rattle.std.specs.Prelude.{codes}
use Rattle.std.proofs.lemmas.Result.{IfOk-equal}
use Rattle.day_reports.specs.CostRows.{amount_row}
use Rattle.day_reports.proofs.Filling.{four_rows}
use Rattle.day_reports.proofs.costs_report.push_parts.Goals as goal

pub returns : goal.returns
returns c =
    let parts = c.args.parts.now in
    let first : List (List ℕ) = amount_row (codes "carriage") parts.carriage.0 in
    let second : List (List ℕ) = amount_row (codes "shortage") parts.shortage.0 in
    let third : List (List ℕ) = amount_row (codes "shunting") parts.shunting.0 in
    let fourth : List (List ℕ) = amount_row (codes "total") c.args.total.0 in
    let before = c.in_ok-push_part-3.ensures ∙ ap (λ rows. rows ++ third ∷ []) (c.in_ok-push_part-2.ensures ∙ ap (λ rows. rows ++ second ∷ []) c.in_ok-push_part.ensures) in
    IfOk-equal c.push_part-4.result _ _ _ c.push_part-4.ensures (ap (λ rows. rows ++ fourth ∷ []) before ∙ four_rows c.args.report.now first second third fourth)
