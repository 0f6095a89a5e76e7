use Rattle.std.proofs.Common.{◌≡◌, drop}
use Rattle.day_simulator.specs.State.{State}
use Rattle.day_simulator.specs.Finish.{first_not_made}
use Rattle.day_simulator.proofs.balance.first_not_made.Given as goal

abbrev pub invariant-loop-event : goal.invariant-loop-event
invariant-loop-event l = (state : State) → state.stages ≡ l.stages → first_not_made state (drop l.event-index l.order) ≡ first_not_made state l.order
