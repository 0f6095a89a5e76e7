use Rattle.std.proofs.Common.{◌≡◌, ℕ, ◌+◌, ◌*◌, ap, arith, length, subst}
use Rattle.answer_text.specs.declared.limits.TheConstants.{MAX_AMOUNT}
use Rattle.week_plan.specs.Amounts.{IsHeadUpTo}
use Rattle.week_plan.proofs.heads.+head_of.Goals as goal

pub returns-clause-amounts : goal.returns-clause-amounts
returns-clause-amounts t c =
    let rest = c.in-Some.rest.now in
    let times : (length rest + 1) * MAX_AMOUNT ≡ length c.args.answers.now * MAX_AMOUNT =
    ap (λ (n : ℕ). n * MAX_AMOUNT) c.in-Some.ensures.cases.1 in
    let one_more : MAX_AMOUNT + length rest * MAX_AMOUNT ≡ length c.args.answers.now * MAX_AMOUNT =
    omega (arith, times) in
    subst (λ (most : ℕ). IsHeadUpTo most c.together.result) one_more
    (c.together.ensures.amounts (length rest * MAX_AMOUNT) c.head_of.ensures.amounts)
