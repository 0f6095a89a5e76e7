-- The whole begins with the front, or it does not.
use Rattle.transitions.proofs.Rests.{rest_found, rest_missing}
use Rattle.transitions.proofs.turns.rest_after.Goals as goal

pub returns-in_err-strip_prefix : goal.returns-in_err-strip_prefix
returns-in_err-strip_prefix c = λ rest. (λ e. absurd cc, λ there. absurd (rest_missing c.args.front.now c.args.whole.now (c.in_err-strip_prefix.ensures.cases) rest there.0))

pub returns : goal.returns
returns c =
    rest_found c.args.front.now c.args.whole.now c.of.result c.in_ok-strip_prefix.field-0.now c.requires
    (c.in_ok-strip_prefix.ensures.cases.0) (c.in_ok-strip_prefix.ensures.cases.1) c.of.ensures.none c.of.ensures.some
