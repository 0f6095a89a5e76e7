use Rattle.std.proofs.Common.{ℕ, List, subst}
use Rattle.rail_base.specs.Answers.{GivesRows}
use Rattle.rail_base.specs.declared.limits.TheConstants.{MAX_STATIONS}
use Rattle.rail_csv.specs.declared.limits.TheConstants.{FEWEST_STATION_COLUMNS}
use Rattle.rail_csv.specs.Tables.{is_memory, table_of, station_rows_of, station_columns}
use Rattle.rail_csv.proofs.Accepted.{stations_are}
use Rattle.rail_csv.proofs.readers.stations.Goals as goal

pub returns-clause-rows : goal.returns-clause-rows
unfolding station_rows_of
returns-clause-rows c =
    stations_are c.read_table.result c.args.bytes.now
    (subst (λ (words : List (List ℕ)). GivesRows is_memory c.read_table.result (table_of words FEWEST_STATION_COLUMNS MAX_STATIONS station_columns c.args.bytes.now)) c.header.ensures c.read_table.ensures)
