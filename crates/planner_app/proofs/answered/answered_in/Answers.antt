use Rattle.std.proofs.Common.{rules}
use Rattle.planner_app.specs.Readings.{NoDay, NoneRead}
use Rattle.planner_app.proofs.answered.answered_in.Goals as goal

pub returns-in-Err-clause-error : goal.returns-in-Err-clause-error
returns-in-Err-clause-error g c =
    NoDay (record {
      error = c.in-Err.error;
      of_tables = record { told = c.in-Err.ensures.told; says = c.in-Err.ensures.says; caused = c.in-Err.ensures.caused };
      is = search rules;
    })

pub returns-in-Ok-Err-clause-error : goal.returns-in-Ok-Err-clause-error
returns-in-Ok-Err-clause-error g c =
    NoneRead c.in-Ok.instance (record { made = c.in-Ok.ensures.made; told = c.in-Ok.ensures.told }) c.in-Ok-Err.error
    (record { told = search rules; caused = search rules }) (search rules)
