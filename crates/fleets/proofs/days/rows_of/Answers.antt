-- Each place gives the fleet's row of it.
use Rattle.std.proofs.Common.{◌≡◌, ◌∙◌, ◌≤◌, ◌++◌, ◌∷◌, [], List, length, take, ap, sym, subst, arith, ℕ}
use Rattle.std.specs.List.{All}
use Rattle.std.proofs.lemmas.List.Elements.{All-push}
use Rattle.rail_base.specs.declared.limits.TheConstants.{MAX_STOCK_ROWS}
use Rattle.rail_csv.specs.declared.rows.StockRow.{StockRow}
use Rattle.rail_csv.specs.Rows.{IsStockRow}
use Rattle.fleets.specs.Fleets.{rows_from}
use Rattle.fleets.proofs.Rows.{few_at, next_row, all_rows, few_rows}
use Rattle.fleets.proofs.days.rows_of.Goals as goal

pub row_in-requires-clause-units : goal.row_in-requires-clause-units
row_in-requires-clause-units c = few_at c.args.instance.now c.args.fleet.now c.loop-place.place c.at.result c.requires c.at.ensures

pub loop-place-preserved : goal.loop-place-preserved
loop-place-preserved c = record {
  rows =
      c.in_ok-push.ensures.items
      ∙ ap (λ (rows : List StockRow). rows ++ c.in_ok-row_in.field-0 ∷ []) c.loop-place.invariant.rows
      ∙ ap (λ (row : StockRow). rows_from c.args.instance.now 0 (take c.loop-place.place c.args.fleet.now) ++ row ∷ []) c.in_ok-row_in.ensures.row
      ∙ sym (next_row c.args.instance.now c.loop-place.place c.at.result c.args.fleet.now c.at.ensures);
  within = subst (All IsStockRow) (sym c.in_ok-push.ensures.items)
      (All-push IsStockRow c.loop-place.rows.items c.in_ok-row_in.field-0 c.loop-place.invariant.within c.in_ok-row_in.ensures.within);
}

pub returns-clause-within : goal.returns-clause-within
returns-clause-within c = record {
  few =
      let all : c.loop-place.rows.items ≡ rows_from c.args.instance.now 0 c.args.fleet.now =
      c.loop-place.invariant.rows ∙ all_rows c.args.instance.now c.loop-place.place c.args.fleet.now (omega arith) in
      subst (λ (n : ℕ). n ≤ MAX_STOCK_ROWS) (sym (ap (length {A = StockRow}) all)) (few_rows c.args.instance.now c.args.fleet.now c.is_sound.ensures c.requires);
  each = c.loop-place.invariant.within;
}
