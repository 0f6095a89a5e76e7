use Rattle.std.proofs.Common.{length, arith}
use Rattle.answer_text.proofs.Cutting.{first_at, no_mark_more}
use Rattle.answer_text.proofs.pieces.first_piece.Goals as goal

pub loop-end-preserved : goal.loop-end-preserved
loop-end-preserved c = no_mark_more c.args.mark c.args.text.now c.loop-end.end c.loop-end.invariant c.if-text-end.false

pub returns-then-text-end : goal.returns-then-text-end
returns-then-text-end c =
    rw (c.split_at.ensures.front, c.split_at.ensures.back)
    (first_at c.args.mark c.args.text.now c.loop-end.end (omega (arith, c.loop-end-test.true)) c.loop-end.invariant (λ inside. c.if-text-end.true))

pub returns : goal.returns
returns c =
    rw (c.split_at-2.ensures.front, c.split_at-2.ensures.back)
    (first_at c.args.mark c.args.text.now (length c.args.text.now) (omega arith) (λ k inside. c.loop-end.invariant k (omega (arith, inside, c.loop-end-test.false))) (λ inside. absurd (omega (arith, inside))))
