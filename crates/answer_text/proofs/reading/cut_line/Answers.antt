use Rattle.std.proofs.Common.{◌∙◌, sym}
use Rattle.answer_text.proofs.Cutting.{cut_fault}
use Rattle.answer_text.proofs.reading.cut_line.Goals as goal

pub returns-then-is_empty-2 : goal.returns-then-is_empty-2
returns-then-is_empty-2 c =
    cut_fault c.args.number c.args.bytes.now c.first_piece.result.0.now c.first_piece.result.1.now
    (sym c.is_empty.ensures ∙ c.if-is_empty.false) (sym c.is_empty-2.ensures ∙ c.if-is_empty-2.true) c.first_piece.ensures
