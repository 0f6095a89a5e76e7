use Rattle.std.proofs.Common.{◌∙◌, arith, sym}
use Rattle.sample_days.proofs.Admitted.{one_more, are_picks, are_admissible}
use Rattle.sample_days.proofs.picks.may_run.Goals as goal

pub loop-number-init : goal.loop-number-init
loop-number-init c = λ t comp below at. absurd (omega (arith, below))

pub loop-number-preserved : goal.loop-number-preserved
loop-number-preserved c = one_more c.args.day.now c.args.picks.now c.loop-number.number c.get.result c.loop-number.invariant c.get.ensures (c.is_admitted.ensures c.if-not-is_admitted.false)

pub returns-clause-picks : goal.returns-clause-picks
returns-clause-picks c = λ all.
    let many = sym c.len.ensures ∙ c.if-len-trips.false ∙ c.trips.ensures.value in
    are_picks c.args.day.now c.args.picks.now many
    (λ t comp below at. c.loop-number.invariant t comp (omega (arith, below, c.trips-number-end.ensures.value, c.loop-number-test.false)) at)

pub returns-clause-admissible : goal.returns-clause-admissible
returns-clause-admissible c = λ all.
    let many = sym c.len.ensures ∙ c.if-len-trips.false ∙ c.trips.ensures.value in
    are_admissible c.args.day.now c.args.picks.now many
    (λ t comp below at. c.loop-number.invariant t comp (omega (arith, below, c.trips-number-end.ensures.value, c.loop-number-test.false)) at)
