use Rattle.std.proofs.Common.{rules}
use Rattle.answer_text.proofs.numbers.has_leading_zero.Goals as goal

pub returns-then-word-eq48 : goal.returns-then-word-eq48
returns-then-word-eq48 c = search rules
