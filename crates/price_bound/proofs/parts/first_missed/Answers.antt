-- One hand-over more is not missed.
use Rattle.std.proofs.Common.{◌≡◌, ℕ, subst, arith, ⊎_elim}
use Rattle.std.proofs.lemmas.Bool.{cases_lt}
use Rattle.price_bound.specs.Parts.{HasPart, IsMissed}
use Rattle.price_bound.proofs.parts.first_missed.Goals as goal

pub loop-handover-preserved : goal.loop-handover-preserved
loop-handover-preserved c h below =
    let last : ℕ = c.loop-handover.handover in
    let here : HasPart c.args.instance.now c.args.picks.now last =
    subst (IsMissed c.args.instance.now c.args.picks.now last) c.in_default.is c.missed_at.ensures in
    ⊎_elim (λ less. c.loop-handover.invariant h less)
    (λ past. let same : last ≡ h = omega (arith, past, below) in
    subst (HasPart c.args.instance.now c.args.picks.now) same here)
    (cases_lt h last)
