use Rattle.std.proofs.Common.{◌∙◌, ◌<◌, ℕ, sym, subst, rules}
use Rattle.unit_duties.proofs.ByEdges.{link_at}
use Rattle.unit_duties.proofs.broken.first_broken.Goals as goal

pub returns-then-not-holds-clause-some : goal.returns-then-not-holds-clause-some
returns-then-not-holds-clause-some c =
    let links = c.args.instance.now.links in
    let found = link_at links c.loop-number.number (subst (λ (n : ℕ). c.loop-number.number < n) c.links-number-end.ensures.value c.loop-number-test.true) in
    record {
      link = found.0;
      at = found.1;
      broken = sym (c.holds.ensures found.0 found.1) ∙ c.if-not-holds.true;
      before = c.loop-number.invariant;
    }

pub loop-number-init : goal.loop-number-init
loop-number-init c = search rules
