use Rattle.std.proofs.Common.{ap, Err, refl}
use Rattle.planner_app.specs.DayOutcomes.{DoesRun, DoesStop}
use Rattle.planner_app.proofs.run.simulated_plan.Goals as goal

pub returns-in-Ok-clause-outcome : goal.returns-in-Ok-clause-outcome
returns-in-Ok-clause-outcome c =
    DoesRun c.in-Ok.ran.cost (record { runs = c.in-Ok.ensures.runs.0; cost = c.in-Ok.ensures.runs.1 }) refl

pub returns-in-Err-Stops-clause-outcome : goal.returns-in-Err-Stops-clause-outcome
returns-in-Err-Stops-clause-outcome c =
    DoesStop c.in-Err-Stops.fault
    (record {
      stops = c.in-Err-Stops.ensures.stops c.in-Err-Stops.fault (ap Err c.in-Err-Stops.field-0-is);
      first = rw c.in-Err-Stops.field-0-is at c.in-Err-Stops.ensures.exact;
      in_turn = c.in-Err-Stops.ensures.in_turn c.in-Err-Stops.fault (ap Err c.in-Err-Stops.field-0-is);
    })
    refl
