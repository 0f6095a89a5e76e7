use Rattle.std.proofs.Common.{◌≡◌, false, get_or, sym, ◌∙◌}
use Rattle.search.specs.Frontiers.{has_rank}
use Rattle.search.specs.Conclusions.{plan_in}
use Rattle.search.proofs.Entering.{entered_but, shut_rank}
use Rattle.search.proofs.frontier.Frontier.next_open.Goals.{then-is_below+in_default-place_of, else-is_below}
use Rattle.search.proofs.frontier.Frontier.next_open.Goals as goal

pub loop-bound-preserved : goal.loop-bound-preserved
loop-bound-preserved c = λ place none within.
    entered_but c.loop-bound.self (record { ranks = c.remove.new.self }) c.in-Some.bound c.in-Some.number c.remove.ensures.updates (plan_in c.args.best.now) (get_or c.args.nodes.now place none)
    (λ opens. elim c.if-is_below.branch as (λ _. has_rank c.in-Some.bound c.in-Some.number (get_or c.args.nodes.now place none) ≡ false) [
      | then-is_below+in_default-place_of w ↦ w.in_default-place_of.ensures place none within
      | else-is_below w ↦ shut_rank (plan_in c.args.best.now) c.in-Some.bound c.in-Some.number (get_or c.args.nodes.now place none) (sym c.is_below.ensures ∙ w.if-is_below.false) opens
    ])
    (c.loop-bound.invariant place none within)
