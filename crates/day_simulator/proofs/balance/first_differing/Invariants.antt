use Rattle.std.proofs.Common.{◌≡◌, None}
use Rattle.timetable.specs.Lists.{below}
use Rattle.day_simulator.specs.State.{State}
use Rattle.day_simulator.specs.Finish.{first_differing}
use Rattle.day_simulator.proofs.balance.first_differing.Given as goal

abbrev pub invariant-loop-number : goal.invariant-loop-number
invariant-loop-number l = (state : State) → state.locations ≡ l.locations → first_differing l.instance state (below l.number) ≡ None
