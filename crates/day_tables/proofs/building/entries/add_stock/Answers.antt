-- The stock of a row is added, and what refuses a row refuses all.
use Rattle.std.proofs.Common.{◌≡◌, ◌∙◌, Ok, ap, sym, length, List, arith}
use Rattle.std.proofs.lemmas.List.{length_push}
use Rattle.std.proofs.lemmas.Result.{err_from_is_err_and}
use Rattle.day_tables.specs.Build.{accept_stock, is_memory}
use Rattle.rules.specs.declared.records.Stock.{Stock}
use Rattle.rail_base.proofs.Answers.{Unless-from}
use Rattle.day_tables.proofs.EachRow.{one_more, one_refused}
use Rattle.day_tables.proofs.building.entries.add_stock.Goals as goal

pub loop-row-preserved : goal.loop-row-preserved
loop-row-preserved c =
    let gives : accept_stock c.args.stations.now c.args.types.now c.loop-row.stock.items c.row-item.result ≡ Ok c.in_ok-accepted.accepted =
    ap (λ (stock : List Stock). accept_stock c.args.stations.now c.args.types.now stock c.row-item.result) (sym c.deref.ensures.value) ∙ sym c.in_ok-accepted.ensures in (
      one_more (accept_stock c.args.stations.now c.args.types.now) c.loop-row.stock.items c.push.new.self.items c.args.rows.now c.loop-row.row-index c.row-item.result c.in_ok-accepted.accepted _
          c.loop-row-test.true c.row-item.is gives c.in_ok-push.ensures.items c.loop-row.invariant.0,
      omega (arith, ap length c.in_ok-push.ensures.items, length_push c.loop-row.stock.items c.in_ok-accepted.accepted, c.loop-row.invariant.1),
    )

pub returns-in_err-accepted : goal.returns-in_err-accepted
returns-in_err-accepted c =
    let p = err_from_is_err_and c.from_residual.result c.from_residual.ensures.1 in
    rw (p.1, p.2) (Unless-from (is_memory c.in_err-accepted.field-0.0)
    (one_refused (accept_stock c.args.stations.now c.args.types.now) c.loop-row.stock.items c.args.rows.now c.loop-row.row-index c.row-item.result c.in_err-accepted.field-0.0 _
    c.loop-row-test.true c.row-item.is
    (ap (λ (stock : List Stock). accept_stock c.args.stations.now c.args.types.now stock c.row-item.result) (sym c.deref.ensures.value) ∙ sym c.in_err-accepted.ensures)
    c.loop-row.invariant.0))
