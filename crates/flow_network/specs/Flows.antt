-- Flows through a network of nodes and arcs.
use Rattle.std.specs.Prelude.{ℕ, ◌≡◌, ◌≢◌, ◌<◌, ◌≤◌, ◌^◌, List, length, map, Bool, true, false, ◌==◌, if◌then◌else◌}
use Rattle.std.specs.Prelude.{get_or}
use Rattle.std.specs.List.{All, sum_by}
use Rattle.flow_network.specs.declared.network.Arc.{Arc}

-- what contracts see of a network
pub record Net : Type 0 where
  pub nodes : ℕ
  pub source : ℕ
  pub sink : ℕ
  pub arcs : List Arc

-- ---- flows

-- how many units come to a node, and how many leave it
abbrev pub coming_to : List Arc → ℕ → ℕ
coming_to arcs node = sum_by (λ arc. if arc.to == node then arc.flow else 0) arcs

abbrev pub leaving_from : List Arc → ℕ → ℕ
leaving_from arcs node = sum_by (λ arc. if arc.from == node then arc.flow else 0) arcs

-- the nodes of the arc are there, it doesn't come to the source, and no more goes along it than may
pub record IsArcOf (net : Net) (arc : Arc) : Type 0 where
  pub from : arc.from < net.nodes
  pub to : arc.to < net.nodes
  pub not_to_source : arc.to ≢ net.source
  pub within : arc.flow ≤ arc.capacity

-- but for the source and the sink, what comes to a node leaves it
pub record IsFlow (net : Net) : Type 0 where
  pub few : net.nodes < 2 ^ 32
  pub source : net.source < net.nodes
  pub sink : net.sink < net.nodes
  pub apart : net.sink ≢ net.source
  pub arcs : All (IsArcOf net) net.arcs
  pub kept : (n : ℕ) → n ≢ net.source → n ≢ net.sink → coming_to net.arcs n ≡ leaving_from net.arcs n

-- an arc without what goes along it
abbrev pub empty : Arc → Arc
empty arc = record arc { flow = 0 }

-- the same network, whatever goes along its arcs
pub record IsSameNet (old new : Net) : Type 0 where
  pub nodes : new.nodes ≡ old.nodes
  pub source : new.source ≡ old.source
  pub sink : new.sink ≡ old.sink
  pub arcs : map empty new.arcs ≡ map empty old.arcs

-- ---- what is within reach of the source

abbrev pub is_reached : List Bool → ℕ → Bool
is_reached reached node = get_or reached node false

-- A set of nodes, which are said to be reached: the source is, the sink isn't, and no arc leads on from one that is
-- reached to one that isn't, along it where it takes one unit more, or against it where it has one to give back.
pub record IsReach (net : Net) (reached : List Bool) : Type 0 where
  pub nodes : length reached ≡ net.nodes
  pub source : is_reached reached net.source ≡ true
  pub sink : is_reached reached net.sink ≡ false
  pub along : All (λ arc. is_reached reached arc.from ≡ true → arc.flow < arc.capacity
      → is_reached reached arc.to ≡ true) net.arcs
  pub against : All (λ arc. is_reached reached arc.to ≡ true → 0 < arc.flow
      → is_reached reached arc.from ≡ true) net.arcs

-- how much may go from the nodes that are reached to the others
abbrev pub capacity_out : List Bool → List Arc → ℕ
capacity_out reached arcs =
    sum_by (λ arc. if is_reached reached arc.from then (if is_reached reached arc.to then 0 else arc.capacity) else 0)
    arcs
