use Rattle.std.proofs.Common.{◌∙◌}
use Rattle.answer_text.proofs.Cutting.{end_is}
use Rattle.answer_text.proofs.pieces.is_end.Goals as goal

pub returns : goal.returns
returns c = c.is_empty.ensures ∙ end_is c.args.mark c.args.rest.now
