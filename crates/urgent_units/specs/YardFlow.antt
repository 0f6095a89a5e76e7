-- What a flow of urgent units says: which of them are brought to the depot, and which legs are for these.
use Rattle.std.specs.Prelude.{ℕ, ◌≡◌, List, [], ◌∷◌, length, drop, map, false, if◌then◌else◌, nat_lt}
use Rattle.flow_network.specs.declared.network.Arc.{Arc}
use Rattle.timetable.specs.Lists.{has}
use Rattle.urgent_units.specs.declared.legs.Leg.{Leg}
use Rattle.urgent_units.specs.declared.legs.UnitLegs.{UnitLegs}
use Rattle.urgent_units.specs.declared.swaps.MarkedLeg.{MarkedLeg}
use Rattle.urgent_units.specs.declared.swaps.Rider.{Rider}
use Rattle.urgent_units.specs.declared.swaps.Yards.{Yards}
use Rattle.urgent_units.specs.declared.wish.Wish.{Wish}
use Rattle.urgent_units.specs.Legs.{TypeLegs, all_legs}

-- legs are for units that are brought where something goes along their arcs
abbrev pub marked_from : List Leg → List Arc → List MarkedLeg
marked_from [] arcs = []
marked_from (leg ∷ legs) [] = record { leg = leg; is_brought = false } ∷ marked_from legs []
marked_from (leg ∷ legs) (arc ∷ arcs) = record { leg = leg; is_brought = nat_lt 0 arc.flow } ∷ marked_from legs arcs

-- those of each unit, where the arcs of all their legs come one after another
abbrev pub aheads_from : List UnitLegs → List Arc → List (List MarkedLeg)
aheads_from [] arcs = []
aheads_from (unit ∷ units) arcs = marked_from unit.legs arcs ∷ aheads_from units (drop (length unit.legs) arcs)

-- units are brought where something goes along their arcs
abbrev pub taken_units : List ℕ → List Arc → List ℕ
taken_units [] arcs = []
taken_units (u ∷ us) [] = []
taken_units (u ∷ us) (arc ∷ arcs) = if nat_lt 0 arc.flow then u ∷ taken_units us arcs else taken_units us arcs

-- a unit at home
abbrev pub rider_at_home : List ℕ → UnitLegs → Rider
rider_at_home brought unit =
    record { unit = unit.unit; is_brought = has unit.unit brought; station = unit.home; ready = 0 }

-- the units of the type at home by the plan, with their legs ahead of them
pub record AreAtHome (plan : List (List ℕ)) (legs : TypeLegs) (wish : Wish) (arcs : List Arc) (yards : Yards)
    : Type 0 where
  pub plan_is : yards.plan ≡ plan
  pub riders : yards.riders.items
      ≡ map (rider_at_home (taken_units wish.units (drop (length (all_legs legs)) arcs))) legs.units
  pub aheads : yards.aheads.items ≡ aheads_from legs.units arcs
