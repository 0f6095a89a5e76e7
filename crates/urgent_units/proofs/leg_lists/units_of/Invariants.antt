-- The units of the type so far.
use Rattle.std.proofs.Common.{◌≡◌, map}
use Rattle.std.specs.Prelude.{◌==◌, filter}
use Rattle.timetable.specs.Day.{type_of}
use Rattle.timetable.specs.Lists.{below}
use Rattle.urgent_units.specs.Legs.{unit_legs}
use Rattle.urgent_units.proofs.leg_lists.units_of.Given as goal

abbrev pub invariant-loop-number : goal.invariant-loop-number
invariant-loop-number l = l.units.items ≡ map (unit_legs l.instance l.plan) (filter (λ u. type_of l.instance u == l.unit_type) (below l.number))
