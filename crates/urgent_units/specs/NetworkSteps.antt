-- How the network is made, arc by arc.
use Rattle.std.specs.Prelude.{◌≡◌, ◌+◌, List, ◌++◌}
use Rattle.flow_network.specs.declared.network.Arc.{Arc}
use Rattle.flow_network.specs.Flows.{Net}
use Rattle.urgent_units.specs.Legs.{TypeLegs}
use Rattle.urgent_units.specs.YardNetwork.{source_of}

-- the network has the nodes of these legs, and their source
pub record IsOver (legs : TypeLegs) (net : Net) : Type 0 where
  pub nodes : net.nodes ≡ source_of legs + 1
  pub source : net.source ≡ source_of legs

-- it has more arcs than before, and is the same otherwise
pub record HasMore (legs : TypeLegs) (old : Net) (more : List Arc) (new : Net) : Type 0 where
  pub over : IsOver legs new
  pub is : new ≡ record old { arcs = old.arcs ++ more }
