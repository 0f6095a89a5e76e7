use Rattle.std.proofs.Common.{◌≡◌, ◌<◌, ℕ, length, map, drop, sym, ap, ◌∙◌, subst, List, Option}
use Rattle.flow_network.specs.declared.network.Arc.{Arc}
use Rattle.flow_network.specs.declared.reach.Step.{Step}
use Rattle.flow_network.specs.Flows.{IsReach, empty, is_reached}
use Rattle.flow_network.specs.Steps.{has}
use Rattle.flow_network.proofs.Cutting.{is_reach, whole}
use Rattle.flow_network.proofs.network.Network.fill.Goals as goal

pub returns-clause-reach : goal.returns-clause-reach
returns-clause-reach c =
    subst (λ (arcs : List Arc). IsReach (record { nodes = c.self.inside.nodes; source = c.self.inside.source; sink = c.self.inside.sink; arcs = arcs }) c.in_ok-nodes.nodes.items)
    (sym (whole c.self.inside.arcs.len c.self.inside.arcs.items c.fill.new.arcs (drop (length c.fill.new.arcs) c.self.inside.arcs.items) c.self.inside.arcs.ok.0
    (c.fill.ensures.same ∙ ap (λ (arcs : List Arc). map empty arcs) c.deref_mut.ensures.value)))
    (is_reach (record { nodes = c.self.inside.nodes; source = c.self.inside.source; sink = c.self.inside.sink; arcs = c.fill.new.arcs }) c.in_ok-steps.steps.items c.in_ok-nodes.nodes.items
    c.in_ok-steps.ensures.flow c.in_ok-steps.ensures.reach c.in_ok-steps.ensures.sink
    (c.in_ok-nodes.ensures.long ∙ ap (λ (steps : List (Option Step)). length steps) c.deref.ensures.value)
    (subst (λ (steps : List (Option Step)). (n : ℕ) → n < length steps → is_reached c.in_ok-nodes.nodes.items n ≡ has c.self.inside.source steps n) c.deref.ensures.value c.in_ok-nodes.ensures.each))
