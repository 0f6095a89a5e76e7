-- The network in which the urgent units of a wish flow to the depot: a node for each moment of each station, and the
-- source. A unit of the flow goes from the source to the home of an urgent unit, along legs, and from one moment of a
-- yard to the next; and the sink is the last moment of the depot.
use Rattle.std.specs.Prelude.{ℕ, suc, ◌≡◌, ◌≤◌, ◌+◌, ◌-◌, List, ◌++◌, map, Bool, Some}
use Rattle.flow_network.specs.declared.network.Arc.{Arc}
use Rattle.flow_network.specs.Flows.{Net, is_reached}
use Rattle.timetable.specs.Day.{Day, home_of}
use Rattle.timetable.specs.Lists.{joined, listed, sum_below}
use Rattle.urgent_units.specs.declared.legs.Leg.{Leg}
use Rattle.urgent_units.specs.declared.wish.Wish.{Wish}
use Rattle.urgent_units.specs.Cuts.{HasMoments, value_of}
use Rattle.urgent_units.specs.Held.{held}
use Rattle.urgent_units.specs.Legs.{TypeLegs, all_legs}
use Rattle.urgent_units.specs.Moments.{moment_count, moment_of}

-- ---- nodes

-- the node of a moment: they are numbered by station, and then by moment
abbrev pub node_of : TypeLegs → ℕ → ℕ → ℕ
node_of legs s k = sum_below (moment_count legs) s + k

-- the source comes after them
abbrev pub source_of : TypeLegs → ℕ
source_of legs = sum_below (moment_count legs) legs.stations

abbrev pub sink_of : TypeLegs → Wish → ℕ
sink_of legs wish = node_of legs wish.depot (moment_count legs wish.depot - 1)

-- ---- arcs

abbrev pub arc : ℕ → ℕ → ℕ → Arc
arc from to capacity = record { from = from; to = to; capacity = capacity; flow = 0 }

-- along a leg one unit goes, from the moment at which it leaves to the one at which it is ready
abbrev pub leg_arc : TypeLegs → Leg → Arc
leg_arc legs leg =
    arc (node_of legs leg.from (moment_of legs leg.from leg.departs))
    (node_of legs leg.to (moment_of legs leg.to leg.ready)) 1

-- an urgent unit begins at home
abbrev pub home_arc : Day → TypeLegs → ℕ → Arc
home_arc day legs u = arc (source_of legs) (node_of legs (home_of day u) 0) 1

-- as many units wait from one moment to the next as are held
abbrev pub wait_arc : TypeLegs → ℕ → ℕ → Arc
wait_arc legs s k = arc (node_of legs s k) (node_of legs s (suc k)) (held legs s k)

abbrev pub wait_arcs : TypeLegs → ℕ → List Arc
wait_arcs legs s = listed (wait_arc legs s) (moment_count legs s - 1)

abbrev pub yard_arcs : Day → TypeLegs → Wish → List Arc
yard_arcs day legs wish =
    map (leg_arc legs) (all_legs legs) ++ map (home_arc day legs) wish.units ++ joined (wait_arcs legs) legs.stations

-- the network without a flow
unfoldable pub yard_network : Day → TypeLegs → Wish → Net
yard_network day legs wish = record {
  nodes = source_of legs + 1;
  source = source_of legs;
  sink = sink_of legs wish;
  arcs = yard_arcs day legs wish;
}

-- ---- the cut of the nodes that are reached

unfoldable pub reached_cut : TypeLegs → List Bool → List (List Bool)
reached_cut legs reached =
    listed (λ s. listed (λ k. is_reached reached (node_of legs s k)) (moment_count legs s)) legs.stations

-- ---- a cut of least value

-- no cut through these legs is worth less
abbrev pub IsLeast : Day → TypeLegs → Wish → ℕ → Type 0
IsLeast day legs wish least = (cut : List (List Bool)) (value : ℕ) → HasMoments legs cut
    → value_of day legs wish cut ≡ Some value → least ≤ value
