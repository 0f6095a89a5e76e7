use Rattle.std.proofs.Common.{◌≡◌, length, arith}
use Rattle.std.proofs.lemmas.Result.{err_from_is_err_and}
use Rattle.csv.specs.Records.{fields_of}
use Rattle.rail_csv.proofs.Turns.{past_limit, within_limit}
use Rattle.rail_csv.proofs.reading.push_row.Goals as goal

pub returns-then-len-limit-clause-err : goal.returns-then-len-limit-clause-err
returns-then-len-limit-clause-err g c =
    past_limit c.args.width c.args.limit g.T.TableRow.columns (length c.args.rows.now.items) (fields_of c.args.found) (omega (arith, c.len.ensures, c.if-len-limit.true))

pub returns-in_err-row-clause-err : goal.returns-in_err-row-clause-err
returns-in_err-row-clause-err g c =
    let p = err_from_is_err_and c.from_residual.result c.from_residual.ensures.1 in
    let number : length c.args.rows.now.items ≡ c.len-2.result = omega (arith, c.len-2.ensures) in
    let within = within_limit c.args.width c.args.limit g.T.TableRow.columns c.len-2.result (fields_of c.args.found) (omega (arith, c.len.ensures, c.len-2.ensures, c.if-len-limit.false, c.requires.few)) in
    rw (p.1, p.2, number, within) c.in_err-row.ensures

pub returns-clause-ok : goal.returns-clause-ok
returns-clause-ok g c =
    let number : length c.args.rows.now.items ≡ c.len-2.result = omega (arith, c.len-2.ensures) in
    record {
      room = omega (arith, c.len.ensures, c.if-len-limit.false, c.requires.few);
      row = c.in_ok-row.row;
      read = rw number c.in_ok-row.ensures;
      items = c.in_ok-push.ensures.items;
    }
