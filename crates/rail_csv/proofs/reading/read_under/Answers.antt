use Rattle.std.proofs.Common.{refl, subst}
use Rattle.std.proofs.lemmas.Result.{err_from_is_err_and}
use Rattle.rail_base.specs.Answers.{GivesRows}
use Rattle.rail_csv.specs.Tables.{is_memory}
use Rattle.rail_csv.specs.Records.{records_left}
use Rattle.rail_csv.proofs.Headers.{words}
use Rattle.rail_csv.proofs.Turns.{header_fails, header_goes}
use Rattle.rail_csv.proofs.reading.read_under.Goals as goal

pub returns-in_err-width : goal.returns-in_err-width
returns-in_err-width g c =
    let p = err_from_is_err_and c.from_residual.result c.from_residual.ensures.1 in
    rw (p.1, p.2) (header_fails (words c.args.words.now) c.args.fewest c.args.limit g.T.TableRow.columns c.in_err-width.field-0.0 (records_left c.args.records.now) c.in_err-width.ensures.err)

pub returns : goal.returns
returns g c =
    let rows = header_goes (words c.args.words.now) c.args.fewest c.in_ok-width.width c.args.limit g.T.TableRow.columns c.args.records.now c.read_header.new.records (records_left c.args.records.now) refl c.in_ok-width.ensures.ok in
    subst (λ r. GivesRows is_memory c.read_rows.result r) rows c.read_rows.ensures
