-- What goes along the arcs is a flow, and the steps are those to all that can be reached then.
use Rattle.std.proofs.Common.{◌≡◌, map}
use Rattle.flow_network.specs.Flows.{IsFlow, empty}
use Rattle.flow_network.specs.Steps.{IsReachedBy, room_out}
use Rattle.flow_network.proofs.filling.fill.Given as goal

abbrev pub invariant-loop-alloc : goal.invariant-loop-alloc
invariant-loop-alloc l = record {
  flow : IsFlow (record { nodes = l.nodes; source = l.source; sink = l.sink; arcs = l.arcs });
  same : map empty l.arcs ≡ map empty l.fn.arcs;
  reached : IsReachedBy (record { nodes = l.nodes; source = l.source; sink = l.sink; arcs = l.arcs }) l.steps.items;
}

abbrev pub decreases-loop-alloc : goal.decreases-loop-alloc
decreases-loop-alloc l = room_out l.source l.arcs
