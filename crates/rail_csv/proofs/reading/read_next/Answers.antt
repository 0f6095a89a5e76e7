use Rattle.std.proofs.Common.{refl}
use Rattle.std.proofs.lemmas.Result.{err_from_is_err_and}
use Rattle.csv.specs.Records.{fields_of}
use Rattle.rail_csv.specs.Records.{records_left}
use Rattle.rail_csv.specs.ReadRows.{all_rows}
use Rattle.rail_csv.proofs.Turns.{is_done, row_fails, one_more}
use Rattle.rail_csv.proofs.reading.read_next.Goals as goal

pub returns-in_default-clause-ok : goal.returns-in_default-clause-ok
returns-in_default-clause-ok g c =
    let none = rw c.in_default.is at c.in_ok-found.ensures in
    is_done c.args.width c.args.limit g.T.TableRow.columns c.args.rows.now.items (records_left c.args.records.now) (all_rows c.args.width c.args.limit g.T.TableRow.columns c.args.rows.now.items (records_left c.args.records.now)) none refl

pub returns-in_err-push_row-clause-err : goal.returns-in_err-push_row-clause-err
returns-in_err-push_row-clause-err g c =
    let t = rw c.in-Some.is at c.in_ok-found.ensures in
    let p = err_from_is_err_and c.from_residual-in_err-push_row.result c.from_residual-in_err-push_row.ensures.1 in
    rw (p.1, p.2) (row_fails c.args.width c.args.limit g.T.TableRow.columns c.args.rows.now.items (records_left c.args.records.now) (fields_of c.in-Some.found) (records_left c.next_record.new.records) c.in_err-push_row.field-0.0 t.first c.in_err-push_row.ensures.err)

pub returns-clause-ok : goal.returns-clause-ok
returns-clause-ok g c =
    let t = rw c.in-Some.is at c.in_ok-found.ensures in
    one_more c.args.width c.args.limit g.T.TableRow.columns c.args.rows.now.items c.push_row.new.rows.items (fields_of c.in-Some.found) c.args.records.now c.next_record.new.records t c.in_ok-push_row.ensures.ok
