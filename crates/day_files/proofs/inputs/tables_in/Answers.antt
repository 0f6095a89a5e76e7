use Rattle.std.proofs.Common.{◌∙◌, rules}
use Rattle.rail_csv.specs.declared.rows.Table.TheVariants as table
use Rattle.day_files.proofs.Reached.{is_read, table_ended}
use Rattle.day_files.proofs.inputs.tables_in.Goals as goal

pub returns-in_err-table_in-2-clause-told : goal.returns-in_err-table_in-2-clause-told
returns-in_err-table_in-2-clause-told g c = λ files held.
    let read1 = is_read files c.args.dir.now table.Types c.in_ok-table_in.field-0.table (c.in_ok-table_in.ensures.told files held) in
    let held1 = c.table_in.ensures.only_reads.same ∙ held in
    let ended = table_ended files c.args.dir.now table.Stations c.in_err-table_in-2.field-0.0 (λ e. cc) (read1, tt) (c.in_err-table_in-2.ensures.told files held1) in
    search rules

pub returns-in_err-table_in-3-clause-told : goal.returns-in_err-table_in-3-clause-told
returns-in_err-table_in-3-clause-told g c = λ files held.
    let read1 = is_read files c.args.dir.now table.Types c.in_ok-table_in.field-0.table (c.in_ok-table_in.ensures.told files held) in
    let held1 = c.table_in.ensures.only_reads.same ∙ held in
    let read2 = is_read files c.args.dir.now table.Stations c.in_ok-table_in-2.field-0.table (c.in_ok-table_in-2.ensures.told files held1) in
    let held2 = c.table_in-2.ensures.only_reads.same ∙ held1 in
    let ended = table_ended files c.args.dir.now table.Stock c.in_err-table_in-3.field-0.0 (λ e. cc) (read1, (read2, tt)) (c.in_err-table_in-3.ensures.told files held2) in
    search rules
