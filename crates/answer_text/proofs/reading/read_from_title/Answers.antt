use Rattle.std.proofs.Common.{◌∙◌, sym}
use Rattle.std.proofs.lemmas.Result.{err_from_is_err_and}
use Rattle.answer_text.specs.Pieces.{pieces}
use Rattle.answer_text.proofs.Turns.{fails, moved, title_cut, title_on, title_wrong}
use Rattle.answer_text.proofs.reading.read_from_title.Goals as goal

pub returns-in_err-line : goal.returns-in_err-line
returns-in_err-line c =
    let p = err_from_is_err_and c.from_residual.result c.from_residual.ensures.1 in
    rw (p.1, p.2) (fails c.in_err-line.field-0.0 _ (title_cut (pieces 10 c.args.bytes.now) c.in_err-line.field-0.0 c.in_err-line.ensures))

pub returns-then-not-is_line : goal.returns-then-not-is_line
returns-then-not-is_line c =
    title_wrong (pieces 10 c.args.bytes.now) (pieces 10 c.in_ok-line.rest.now) c.in_ok-line.line.now c.in_ok-line.ensures (sym c.is_line.ensures ∙ c.if-not-is_line.true)

pub returns : goal.returns
returns c =
    moved c.read_from_head.result _ _ (title_on (pieces 10 c.args.bytes.now) (pieces 10 c.in_ok-line.rest.now) c.in_ok-line.line.now c.in_ok-line.ensures (sym c.is_line.ensures ∙ c.if-not-is_line.false)) c.read_from_head.ensures
