-- The inside of a network.
use Rattle.flow_network.specs.declared.network.Network.TheInside.{Inside}
use Rattle.flow_network.specs.Flows.{Net, IsFlow}

-- what contracts see of it
abbrev pub net_in : Inside → Net
net_in a = record { nodes = a.nodes; source = a.source; sink = a.sink; arcs = a.arcs.items }

-- what goes along its arcs is a flow
abbrev pub Holds : Inside → Type 0
Holds a = IsFlow (net_in a)
