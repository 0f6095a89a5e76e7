use Rattle.std.proofs.Common.{sym}
use Rattle.std.proofs.lemmas.Result.{err_from_is_err_and}
use Rattle.answer_text.specs.Pieces.{pieces}
use Rattle.answer_text.proofs.Turns.{branchings_cut, branchings_on, branchings_wrong, fails, moved}
use Rattle.answer_text.proofs.reading.read_from_branchings.Goals as goal

pub returns-in_err-line : goal.returns-in_err-line
returns-in_err-line c =
    let p = err_from_is_err_and c.from_residual.result c.from_residual.ensures.1 in
    rw (p.1, p.2) (fails c.in_err-line.field-0.0 _ (branchings_cut c.args.head (pieces 10 c.args.bytes.now) c.in_err-line.field-0.0 c.in_err-line.ensures))

pub returns-in_default : goal.returns-in_default
returns-in_default c =
    branchings_wrong c.args.head (pieces 10 c.args.bytes.now) (pieces 10 c.in_ok-line.rest.now) c.in_ok-line.line.now c.in_ok-line.ensures (sym c.in_default.ensures)

pub returns : goal.returns
returns c =
    moved c.read_from_runs.result _ _ (branchings_on c.args.head (pieces 10 c.args.bytes.now) (pieces 10 c.in_ok-line.rest.now) c.in_ok-line.line.now c.in-Some.branchings c.in_ok-line.ensures (sym c.in-Some.ensures)) c.read_from_runs.ensures
