use Rattle.std.proofs.Common.{rules}
use Rattle.planner_app.specs.Outcomes.{NoInputs, OfInputs}
use Rattle.planner_app.proofs.run.simulated.Goals as goal

pub returns-in-Err-clause-outcome : goal.returns-in-Err-clause-outcome
returns-in-Err-clause-outcome g c =
    NoInputs c.in-Err.error
    (record { told = c.in-Err.ensures.told; says = c.in-Err.ensures.says; caused = c.in-Err.ensures.caused }) (search rules)

pub returns-in-Ok-clause-outcome : goal.returns-in-Ok-clause-outcome
returns-in-Ok-clause-outcome g c =
    OfInputs c.in-Ok.inputs (record { made = c.in-Ok.ensures.made; made_plan = c.in-Ok.ensures.made_plan; told = search rules })
    c.simulated_plan.ensures.outcome
