-- A table that is refused ends the reading, once those before it were read.
use Rattle.std.proofs.lemmas.Result.{err_from_is_err_and}
use Rattle.day_tables.proofs.ReadTables.{all_read, links_refuse, stations_refuse, stock_refuses, trips_refuse, types_refuse, weights_refuse}
use Rattle.day_tables.proofs.building.day_tables.tables_of.Goals as goal

pub returns-in_err-table_of-clause-exact : goal.returns-in_err-table_of-clause-exact
returns-in_err-table_of-clause-exact c =
    let p = err_from_is_err_and c.from_residual.result c.from_residual.ensures.1 in
    rw (p.1, p.2) (types_refuse c.args.bytes.now c.in_err-table_of.field-0.0 c.in_err-table_of.ensures.exact)

pub returns-in_err-table_of-2-clause-exact : goal.returns-in_err-table_of-2-clause-exact
returns-in_err-table_of-2-clause-exact c =
    let p = err_from_is_err_and c.from_residual-in_err-table_of-2.result c.from_residual-in_err-table_of-2.ensures.1 in
    rw (p.1, p.2) (stations_refuse c.args.bytes.now c.in_ok-table_of.field-0 c.in_err-table_of-2.field-0.0 c.in_ok-table_of.ensures.exact c.in_err-table_of-2.ensures.exact)

pub returns-in_err-table_of-3-clause-exact : goal.returns-in_err-table_of-3-clause-exact
returns-in_err-table_of-3-clause-exact c =
    let p = err_from_is_err_and c.from_residual-in_err-table_of-3.result c.from_residual-in_err-table_of-3.ensures.1 in
    rw (p.1, p.2) (stock_refuses c.args.bytes.now c.in_ok-table_of.field-0 c.in_ok-table_of-2.field-0 c.in_err-table_of-3.field-0.0 c.in_ok-table_of.ensures.exact c.in_ok-table_of-2.ensures.exact c.in_err-table_of-3.ensures.exact)

pub returns-in_err-table_of-4-clause-exact : goal.returns-in_err-table_of-4-clause-exact
returns-in_err-table_of-4-clause-exact c =
    let p = err_from_is_err_and c.from_residual-in_err-table_of-4.result c.from_residual-in_err-table_of-4.ensures.1 in
    rw (p.1, p.2) (trips_refuse c.args.bytes.now c.in_ok-table_of.field-0 c.in_ok-table_of-2.field-0 c.in_ok-table_of-3.field-0 c.in_err-table_of-4.field-0.0 c.in_ok-table_of.ensures.exact c.in_ok-table_of-2.ensures.exact c.in_ok-table_of-3.ensures.exact c.in_err-table_of-4.ensures.exact)

pub returns-in_err-table_of-5-clause-exact : goal.returns-in_err-table_of-5-clause-exact
returns-in_err-table_of-5-clause-exact c =
    let p = err_from_is_err_and c.from_residual-in_err-table_of-5.result c.from_residual-in_err-table_of-5.ensures.1 in
    rw (p.1, p.2) (links_refuse c.args.bytes.now c.in_ok-table_of.field-0 c.in_ok-table_of-2.field-0 c.in_ok-table_of-3.field-0 c.in_ok-table_of-4.field-0 c.in_err-table_of-5.field-0.0 c.in_ok-table_of.ensures.exact c.in_ok-table_of-2.ensures.exact c.in_ok-table_of-3.ensures.exact c.in_ok-table_of-4.ensures.exact c.in_err-table_of-5.ensures.exact)

pub returns-in_err-table_of-6-clause-exact : goal.returns-in_err-table_of-6-clause-exact
returns-in_err-table_of-6-clause-exact c =
    let p = err_from_is_err_and c.from_residual-in_err-table_of-6.result c.from_residual-in_err-table_of-6.ensures.1 in
    rw (p.1, p.2) (weights_refuse c.args.bytes.now c.in_ok-table_of.field-0 c.in_ok-table_of-2.field-0 c.in_ok-table_of-3.field-0 c.in_ok-table_of-4.field-0 c.in_ok-table_of-5.field-0 c.in_err-table_of-6.field-0.0 c.in_ok-table_of.ensures.exact c.in_ok-table_of-2.ensures.exact c.in_ok-table_of-3.ensures.exact c.in_ok-table_of-4.ensures.exact c.in_ok-table_of-5.ensures.exact c.in_err-table_of-6.ensures.exact)

pub returns-clause-exact : goal.returns-clause-exact
returns-clause-exact c =
    all_read c.args.bytes.now _ c.in_ok-table_of.ensures.exact c.in_ok-table_of-2.ensures.exact c.in_ok-table_of-3.ensures.exact c.in_ok-table_of-4.ensures.exact c.in_ok-table_of-5.ensures.exact c.in_ok-table_of-6.ensures.exact
