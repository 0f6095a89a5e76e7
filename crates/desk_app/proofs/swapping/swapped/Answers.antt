use Rattle.std.proofs.Common.{rules}
use Rattle.desk_app.specs.SwapOutcomes.{NoInputs, OfInputs}
use Rattle.desk_app.proofs.swapping.swapped.Goals as goal

pub returns-in-Ok-clause-outcome : goal.returns-in-Ok-clause-outcome
returns-in-Ok-clause-outcome g c =
    OfInputs c.in-Ok.inputs
    (record { made = c.in-Ok.ensures.made; made_plan = c.in-Ok.ensures.made_plan; told = c.in-Ok.ensures.told }) _
    c.in-Ok.ensures.only_reads c.swapped_plan.ensures.outcome

pub returns-in-Err-clause-outcome : goal.returns-in-Err-clause-outcome
returns-in-Err-clause-outcome g c =
    NoInputs c.in-Err.error
    (record { told = c.in-Err.ensures.told; says = c.in-Err.ensures.says; caused = c.in-Err.ensures.caused }) (search rules)
