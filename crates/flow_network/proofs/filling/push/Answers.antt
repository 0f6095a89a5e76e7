use Rattle.std.proofs.Common.{get_or, ◌<◌, length, List, ℕ, sym, subst}
use Rattle.flow_network.specs.declared.network.Arc.{Arc}
use Rattle.flow_network.specs.Flows.{Net}
use Rattle.flow_network.specs.Steps.{rank_of, tail_of}
use Rattle.flow_network.proofs.Pushing.{pushed_on, rank_falls, IsPushed}
use Rattle.flow_network.proofs.Reaching.{no_arc}
use Rattle.flow_network.proofs.filling.push.Goals as goal

pub loop-node-smaller : goal.loop-node-smaller
loop-node-smaller c =
    let net : Net = record { nodes = length c.args.steps.now; source = c.args.source; sink = c.args.sink; arcs = c.args.arcs.now } in
    subst (λ (n : ℕ). rank_of c.args.source c.args.steps.now n < rank_of c.args.source c.args.steps.now c.loop-node.node) (sym (c.push_over-node.ensures.tail no_arc))
    (rank_falls net c.args.steps.now c.requires.reach.start c.loop-node.node c.in-Some.step c.in-Some.is c.loop-node.arcs c.loop-node.invariant)

pub loop-node-preserved : goal.loop-node-preserved
loop-node-preserved c =
    let net : Net = record { nodes = length c.args.steps.now; source = c.args.source; sink = c.args.sink; arcs = c.args.arcs.now } in
    subst (λ (n : ℕ). IsPushed net c.args.steps.now n c.push_over-node.new.arcs) (sym (c.push_over-node.ensures.tail no_arc))
    (subst (λ (arcs : List Arc). IsPushed net c.args.steps.now (tail_of c.in-Some.step.is_along (get_or c.loop-node.arcs c.in-Some.step.arc no_arc)) arcs) (sym (c.push_over-node.ensures.arcs no_arc))
    (pushed_on net c.args.steps.now c.requires.reach.start c.loop-node.node c.in-Some.step c.in-Some.is c.loop-node.arcs c.loop-node.invariant))
