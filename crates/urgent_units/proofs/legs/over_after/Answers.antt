use Rattle.std.proofs.Common.{ℕ, ◌+◌, ◌∙◌, sym, ap, arith}
use Rattle.urgent_units.proofs.OverMoments.{over_none, over_some}
use Rattle.urgent_units.proofs.legs.over_after.Goals as goal

pub returns-then-passed-eq0 : goal.returns-then-passed-eq0
returns-then-passed-eq0 c =
    sym (over_none 0 c.args.minutes.now c.args.moment (sym c.min-passed.ensures ∙ c.if-passed-eq0.true))

pub returns : goal.returns
returns c =
    ap (λ (m : ℕ). m + 1) (c.minutes.ensures.number ∙ c.index-minutes-passed.is)
    ∙ sym (over_some 0 c.args.minutes.now c.args.moment c.min-passed.result c.index-minutes-passed.result c.min-passed.ensures
    (let h = c.if-passed-eq0.false in omega (arith, h)))
