use Rattle.std.proofs.Common.{◌≡◌, drop}
use Rattle.day_simulator.specs.Steps.{steps}
use Rattle.day_simulator.proofs.whole_day.step_all.Given as goal

-- the day and its plan stay, and the steps that are left end as all of them do
abbrev pub invariant-loop-event : goal.invariant-loop-event
invariant-loop-event l = record {
  day : l.day.day ≡ l.fn.day.day;
  plan : l.day.plan ≡ l.fn.day.plan;
  rest : steps l.fn.day.day l.fn.day.plan l.day.state (drop l.event-index l.order) ≡ steps l.fn.day.day l.fn.day.plan l.fn.day.state l.order;
}
