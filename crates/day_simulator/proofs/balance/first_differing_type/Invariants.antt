use Rattle.std.proofs.Common.{◌≡◌, None}
use Rattle.timetable.specs.Lists.{below}
use Rattle.day_simulator.specs.State.{State}
use Rattle.day_simulator.specs.Finish.{first_differing_type}
use Rattle.day_simulator.proofs.balance.first_differing_type.Given as goal

abbrev pub invariant-loop-number : goal.invariant-loop-number
invariant-loop-number l = (state : State) → state.locations ≡ l.locations → first_differing_type l.instance state l.station (below l.number) ≡ None
