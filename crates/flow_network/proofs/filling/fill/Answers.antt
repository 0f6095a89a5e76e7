use Rattle.std.proofs.Common.{length, ap, ◌∙◌, subst, ℕ, List, Option}
use Rattle.flow_network.specs.declared.reach.Step.{Step}
use Rattle.flow_network.specs.Flows.{IsFlow}
use Rattle.flow_network.proofs.filling.fill.Goals as goal

pub loop-alloc-preserved : goal.loop-alloc-preserved
loop-alloc-preserved c = record {
  flow = subst (λ (n : ℕ). IsFlow (record { nodes = n; source = c.args.source; sink = c.args.sink; arcs = c.push.new.arcs }))
      (ap (λ (steps : List (Option Step)). length steps) c.deref.ensures.value ∙ c.loop-alloc.invariant.reached.long) c.push.ensures.flow;
  same = c.push.ensures.same ∙ c.loop-alloc.invariant.same;
  reached = c.in_ok-steps-2.ensures c.args.sink;
}
