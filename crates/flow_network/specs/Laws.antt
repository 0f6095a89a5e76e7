-- What is so of flows.
use Rattle.std.specs.Prelude.{◌≡◌, ◌≤◌, List, Bool}
use Rattle.flow_network.specs.Flows.{Net, IsFlow, IsReach, IsSameNet, capacity_out, leaving_from}

-- no flow through the network brings more from the source
abbrev pub IsLargest : Net → Type 0
IsLargest net = (other : Net) → IsSameNet net other → IsFlow other
    → leaving_from other.arcs net.source ≤ leaving_from net.arcs net.source

-- a flow is largest where the sink isn't within reach of the source any more
abbrev pub FlowsOutOfReachAreLargest : Type 0
FlowsOutOfReachAreLargest = (net : Net) (reached : List Bool) → IsFlow net → IsReach net reached → IsLargest net

-- then all that may go from the nodes that are reached to the others goes there
abbrev pub FlowsFillTheirCut : Type 0
FlowsFillTheirCut = (net : Net) (reached : List Bool) → IsFlow net → IsReach net reached
    → leaving_from net.arcs net.source ≡ capacity_out reached net.arcs
