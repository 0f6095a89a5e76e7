use Rattle.std.proofs.Common.{◌≡◌, IfOk, length, refl}
use Rattle.branch_tree.specs.Claims.{IsConcluded, said_by}
use Rattle.cert_check.specs.declared.verdict.Verdict.{Verdict}
use Rattle.cert_check.specs.declared.verdict.Verdict.TheVariants.{Valid}
use Rattle.cert_check.specs.Verdicts.{IsVerdict}
use Rattle.answer_check.proofs.Unchanged.{at_day, root_over}
use Rattle.answer_check.proofs.checking.verdict_on_claim.Goals as goal

pub checked-requires : goal.checked-requires
checked-requires c = record {
  root = root_over c.args.instance.now c.in_ok-bounds.bounds (length c.in_ok-bounds.bounds.day.trips) c.in_ok-root.root
      c.in_ok-bounds.ensures refl c.in_ok-root.ensures;
}

pub returns-clause-verdict : goal.returns-clause-verdict
returns-clause-verdict c =
    at_day c.args.instance.now c.in_ok-bounds.bounds c.in_ok-root.root
    (λ problem root. IfOk c.checked.result (IsVerdict problem root c.args.claim.now))
    c.in_ok-bounds.ensures c.in_ok-root.ensures c.checked.ensures.verdict

pub returns-clause-holds : goal.returns-clause-holds
returns-clause-holds c =
    at_day c.args.instance.now c.in_ok-bounds.bounds c.in_ok-root.root
    (λ problem root. IfOk c.checked.result
    (λ (verdict : Verdict). verdict ≡ Valid → IsConcluded problem root (said_by c.args.claim.now.head)))
    c.in_ok-bounds.ensures c.in_ok-root.ensures c.checked.ensures.holds
