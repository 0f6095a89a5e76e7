-- A file that is not read, or is refused, ends the reading, since those before it were read.
use Rattle.std.proofs.Common.{◌∙◌, [], ◌∷◌, rules}
use Rattle.rail_csv.specs.declared.rows.Table.TheVariants as table
use Rattle.day_files.proofs.Reached.{is_read, table_ended, units_read}
use Rattle.day_files.proofs.inputs.tables_with.Goals as goal

pub returns-in_err-trips-clause-told : goal.returns-in_err-trips-clause-told
returns-in_err-trips-clause-told g c = λ files held.
    let units = units_read files c.args.dir.now c.args.units (c.requires.read files held) in
    let ended = table_ended files c.args.dir.now table.Trips c.in_err-trips.field-0.0 (λ e. cc) (units [] tt) (c.in_err-trips.ensures.told files held) in
    search rules

pub returns-in_err-links-clause-told : goal.returns-in_err-links-clause-told
returns-in_err-links-clause-told g c = λ files held.
    let units = units_read files c.args.dir.now c.args.units (c.requires.read files held) in
    let read4 = is_read files c.args.dir.now table.Trips c.in_ok-trips.trips.table (c.in_ok-trips.ensures.told files held) in
    let held4 = c.table_in.ensures.only_reads.same ∙ held in
    let ended = table_ended files c.args.dir.now table.Links c.in_err-links.field-0.0 (λ e. cc) (units (table.Trips ∷ []) (read4, tt)) (c.in_err-links.ensures.told files held4) in
    search rules

pub returns-in_err-weights-clause-told : goal.returns-in_err-weights-clause-told
returns-in_err-weights-clause-told g c = λ files held.
    let units = units_read files c.args.dir.now c.args.units (c.requires.read files held) in
    let read4 = is_read files c.args.dir.now table.Trips c.in_ok-trips.trips.table (c.in_ok-trips.ensures.told files held) in
    let held4 = c.table_in.ensures.only_reads.same ∙ held in
    let read5 = is_read files c.args.dir.now table.Links c.in_ok-links.links.table (c.in_ok-links.ensures.told files held4) in
    let held5 = c.table_in-2.ensures.only_reads.same ∙ held4 in
    let ended = table_ended files c.args.dir.now table.Weights c.in_err-weights.field-0.0 (λ e. cc) (units (table.Trips ∷ table.Links ∷ []) (read4, (read5, tt))) (c.in_err-weights.ensures.told files held5) in
    search rules
