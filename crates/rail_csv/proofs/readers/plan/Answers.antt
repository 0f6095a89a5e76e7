use Rattle.std.proofs.Common.{ℕ, List, subst}
use Rattle.rail_base.specs.Answers.{GivesRows}
use Rattle.rail_base.specs.declared.limits.TheConstants.{MAX_PLAN_ROWS}
use Rattle.rail_csv.specs.declared.limits.TheConstants.{FEWEST_PLAN_COLUMNS}
use Rattle.rail_csv.specs.Tables.{is_memory, table_of, plan_rows_of, plan_columns}
use Rattle.rail_csv.proofs.Accepted.{plan_are}
use Rattle.rail_csv.proofs.readers.plan.Goals as goal

pub returns-clause-rows : goal.returns-clause-rows
unfolding plan_rows_of
returns-clause-rows c =
    plan_are c.read_table.result c.args.bytes.now
    (subst (λ (words : List (List ℕ)). GivesRows is_memory c.read_table.result (table_of words FEWEST_PLAN_COLUMNS MAX_PLAN_ROWS plan_columns c.args.bytes.now)) c.header.ensures c.read_table.ensures)
