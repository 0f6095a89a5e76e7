use Rattle.std.proofs.Common.{List, ℕ, length, ap, arith}
use Rattle.replan.proofs.replanning.said_of.Goals as goal

pub of-plan-requires : goal.of-plan-requires
of-plan-requires c =
    let same = ap (λ (lists : List (List ℕ)). length lists) c.into_items.ensures in
    omega (arith, same, c.requires.few)
