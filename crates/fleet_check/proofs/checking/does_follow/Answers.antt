use Rattle.std.proofs.Common.{IsTrue, ◌↔◌, sym, subst}
use Rattle.rules.specs.declared.heads.Head.{Head}
use Rattle.fleet_check.specs.Heads.{DoesFollow}
use Rattle.fleet_check.proofs.checking.does_follow.Goals as goal

pub returns-in-Optimal : goal.returns-in-Optimal
returns-in-Optimal c values is =
    subst (λ (head : Head). IsTrue c.is_above_none.result ↔ DoesFollow values head) (sym c.in-Optimal.is) (c.is_above_none.ensures values is)
