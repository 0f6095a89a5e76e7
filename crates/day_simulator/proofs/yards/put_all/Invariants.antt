use Rattle.std.proofs.Common.{◌≡◌, drop}
use Rattle.day_simulator.specs.State.{put_all}
use Rattle.day_simulator.proofs.yards.put_all.Given as goal

abbrev pub invariant-loop-unit : goal.invariant-loop-unit
invariant-loop-unit l = put_all l.locations (drop l.unit-index l.units) l.place ≡ put_all l.fn.locations l.units l.place
