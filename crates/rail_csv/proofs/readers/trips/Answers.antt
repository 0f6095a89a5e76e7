use Rattle.std.proofs.Common.{ℕ, List, subst}
use Rattle.rail_base.specs.Answers.{GivesRows}
use Rattle.rail_base.specs.declared.limits.TheConstants.{MAX_TRIPS}
use Rattle.rail_csv.specs.declared.limits.TheConstants.{FEWEST_TRIP_COLUMNS}
use Rattle.rail_csv.specs.Tables.{is_memory, table_of, trip_rows_of, trip_columns}
use Rattle.rail_csv.proofs.Accepted.{trips_are}
use Rattle.rail_csv.proofs.readers.trips.Goals as goal

pub returns-clause-rows : goal.returns-clause-rows
unfolding trip_rows_of
returns-clause-rows c =
    trips_are c.read_table.result c.args.bytes.now
    (subst (λ (words : List (List ℕ)). GivesRows is_memory c.read_table.result (table_of words FEWEST_TRIP_COLUMNS MAX_TRIPS trip_columns c.args.bytes.now)) c.header.ensures c.read_table.ensures)
