use Rattle.std.proofs.Common.{IfOk, length, refl}
use Rattle.cert_check.specs.Verdicts.{IsVerdict}
use Rattle.answer_check.proofs.Unchanged.{at_day, root_over}
use Rattle.fleet_check.proofs.proved_nodes.verdict_on.Goals as goal

pub checked-requires : goal.checked-requires
checked-requires c = record {
  root = root_over c.args.day.now c.in_ok-bounds.bounds (length c.in_ok-bounds.bounds.day.trips) c.in_ok-root.root
      c.in_ok-bounds.ensures refl c.in_ok-root.ensures;
}

pub returns : goal.returns
returns c =
    at_day c.args.day.now c.in_ok-bounds.bounds c.in_ok-root.root
    (λ problem root. IfOk c.checked.result (IsVerdict problem root c.args.claim.now))
    c.in_ok-bounds.ensures c.in_ok-root.ensures c.checked.ensures.verdict
