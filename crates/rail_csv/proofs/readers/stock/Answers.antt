use Rattle.std.proofs.Common.{ℕ, List, subst}
use Rattle.rail_base.specs.Answers.{GivesRows}
use Rattle.rail_base.specs.declared.limits.TheConstants.{MAX_STOCK_ROWS}
use Rattle.rail_csv.specs.declared.limits.TheConstants.{FEWEST_STOCK_COLUMNS}
use Rattle.rail_csv.specs.Tables.{is_memory, table_of, stock_rows_of, stock_columns}
use Rattle.rail_csv.proofs.Accepted.{stock_are}
use Rattle.rail_csv.proofs.readers.stock.Goals as goal

pub returns-clause-rows : goal.returns-clause-rows
unfolding stock_rows_of
returns-clause-rows c =
    stock_are c.read_table.result c.args.bytes.now
    (subst (λ (words : List (List ℕ)). GivesRows is_memory c.read_table.result (table_of words FEWEST_STOCK_COLUMNS MAX_STOCK_ROWS stock_columns c.args.bytes.now)) c.header.ensures c.read_table.ensures)
