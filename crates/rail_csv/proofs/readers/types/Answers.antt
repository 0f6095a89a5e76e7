use Rattle.std.proofs.Common.{ℕ, List, subst}
use Rattle.rail_base.specs.Answers.{GivesRows}
use Rattle.rail_base.specs.declared.limits.TheConstants.{MAX_TYPES}
use Rattle.rail_csv.specs.declared.limits.TheConstants.{FEWEST_TYPE_COLUMNS}
use Rattle.rail_csv.specs.Tables.{is_memory, table_of, type_rows_of, type_columns}
use Rattle.rail_csv.proofs.Accepted.{types_are}
use Rattle.rail_csv.proofs.readers.types.Goals as goal

pub returns-clause-rows : goal.returns-clause-rows
unfolding type_rows_of
returns-clause-rows c =
    types_are c.read_table.result c.args.bytes.now
    (subst (λ (words : List (List ℕ)). GivesRows is_memory c.read_table.result (table_of words FEWEST_TYPE_COLUMNS MAX_TYPES type_columns c.args.bytes.now)) c.header.ensures c.read_table.ensures)
