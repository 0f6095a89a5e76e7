use Rattle.std.proofs.Common.{take}
use Rattle.timetable.specs.Day.{to_of, ready_at}
use Rattle.unit_duties.specs.Trains.{given_units}
use Rattle.unit_duties.specs.Yards.{ArePutIn}
use Rattle.unit_duties.proofs.naming.give.Given as goal

abbrev pub invariant-loop-unit : goal.invariant-loop-unit
invariant-loop-unit l =
    ArePutIn l.instance (to_of l.instance l.fn.trip) (ready_at l.instance l.fn.trip) (take l.unit-index (given_units l.instance l.fn.picks l.fn.trip l.fn.units)) l.initial.yards l.yards
