use Rattle.std.proofs.Common.{ℕ, List, subst}
use Rattle.rail_base.specs.Answers.{GivesRows}
use Rattle.rail_base.specs.declared.limits.TheConstants.{MAX_LINKS}
use Rattle.rail_csv.specs.declared.limits.TheConstants.{FEWEST_LINK_COLUMNS}
use Rattle.rail_csv.specs.Tables.{is_memory, table_of, link_rows_of, link_columns}
use Rattle.rail_csv.proofs.Accepted.{links_are}
use Rattle.rail_csv.proofs.readers.links.Goals as goal

pub returns-clause-rows : goal.returns-clause-rows
unfolding link_rows_of
returns-clause-rows c =
    links_are c.read_table.result c.args.bytes.now
    (subst (λ (words : List (List ℕ)). GivesRows is_memory c.read_table.result (table_of words FEWEST_LINK_COLUMNS MAX_LINKS link_columns c.args.bytes.now)) c.header.ensures c.read_table.ensures)
