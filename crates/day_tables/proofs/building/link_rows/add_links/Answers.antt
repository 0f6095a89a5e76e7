-- The link of a row is added, and what refuses the row refuses the links.
use Rattle.std.proofs.Common.{◌∙◌, sym, length, ap, arith}
use Rattle.std.proofs.lemmas.List.{length_push}
use Rattle.std.proofs.lemmas.Result.{err_from_is_err_and}
use Rattle.day_tables.specs.Build.{is_memory}
use Rattle.day_tables.specs.LinkRows.{accept_link}
use Rattle.rail_base.proofs.Answers.{Unless-from}
use Rattle.day_tables.proofs.EachRow.{one_more, one_refused}
use Rattle.day_tables.proofs.building.link_rows.add_links.Goals as goal

pub loop-row-preserved : goal.loop-row-preserved
loop-row-preserved c = (
  one_more (accept_link c.args.trips.now) c.loop-row.links.links c.push.new.self.links c.args.rows.now c.loop-row.row-index c.row-item.result c.in_ok-kind.field-0 _
      c.loop-row-test.true c.row-item.is (sym c.in_ok-kind.ensures.value) c.in_ok-push.ensures.added c.loop-row.invariant.0,
  omega (arith, ap length c.in_ok-push.ensures.added, length_push c.loop-row.links.links c.in_ok-kind.field-0, c.loop-row.invariant.1),
  c.in_ok-push.ensures.trips ∙ c.loop-row.invariant.2,
)

pub returns-in_err-kind : goal.returns-in_err-kind
returns-in_err-kind c =
    let p = err_from_is_err_and c.from_residual.result c.from_residual.ensures.1 in
    rw (p.1, p.2) (Unless-from (is_memory c.in_err-kind.field-0.0)
    (one_refused (accept_link c.args.trips.now) c.loop-row.links.links c.args.rows.now c.loop-row.row-index c.row-item.result c.in_err-kind.field-0.0 _
    c.loop-row-test.true c.row-item.is (sym c.in_err-kind.ensures.value) c.loop-row.invariant.0))
