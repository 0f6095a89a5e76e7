use Rattle.std.proofs.Common.{◌≡◌, take, drop}
use Rattle.day_simulator.specs.declared.events.UnitLocation.TheVariants.{Aboard}
use Rattle.day_simulator.specs.State.{put_all}
use Rattle.day_simulator.specs.Steps.{first_missing}
use Rattle.day_simulator.proofs.yards.first_missing.Given as goal

-- the units so far are aboard, and the first that is missing among the others is the first of all
abbrev pub invariant-loop-i : goal.invariant-loop-i
invariant-loop-i l =
    first_missing l.instance l.fn.trip (put_all l.locations (take l.i l.units) (Aboard l.fn.trip)) (drop l.i l.units) ≡ first_missing l.instance l.fn.trip l.locations l.units
