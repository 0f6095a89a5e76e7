use Rattle.std.proofs.Common.{◌≡◌, map, take}
use Rattle.day_simulator.specs.declared.events.UnitLocation.TheVariants.{Yard}
use Rattle.timetable.specs.Day.{units_of}
use Rattle.day_simulator.proofs.day.locations_at_home.Given as goal

abbrev pub invariant-loop-number : goal.invariant-loop-number
invariant-loop-number l = l.locations.items ≡ map (λ unit. Yard unit.home 0) (take l.number (units_of l.instance))
