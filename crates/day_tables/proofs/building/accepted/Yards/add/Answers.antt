-- What a table adds is a part of the yards, and what refuses it refuses the yards.
use Rattle.std.proofs.Common.{◌∙◌, List, ap, sym, true, false}
use Rattle.std.specs.Prelude.{nat_lt}
use Rattle.std.proofs.lemmas.Result.{err_from_is_err_and}
use Rattle.rail_base.specs.declared.limits.TheConstants.{MAX_UNITS}
use Rattle.day_tables.specs.Build.{starts_of}
use Rattle.rules.specs.declared.records.Stock.{Stock}
use Rattle.day_tables.proofs.Entries.{are_types, are_stations}
use Rattle.day_tables.proofs.InParts.{is_types, is_stations, types_refuse, stations_refuse, stock_refuses, units_decide}
use Rattle.day_tables.proofs.building.accepted.Yards.add.Goals as goal

pub returns-in_err-add_types : goal.returns-in_err-add_types
returns-in_err-add_types c =
    let p = err_from_is_err_and c.from_residual.result c.from_residual.ensures.1 in
    rw (p.1, p.2) (types_refuse c.args.types.items c.args.stations.items c.args.stock.now _ _ _ c.requires.empty c.in_err-add_types.field-0.0 c.in_err-add_types.ensures)

pub returns-in_err-add_stations : goal.returns-in_err-add_stations
returns-in_err-add_stations c =
    let p = err_from_is_err_and c.from_residual-in_err-add_stations.result c.from_residual-in_err-add_stations.ensures.1 in
    rw (p.1, p.2) (stations_refuse c.args.types.items c.args.stations.items c.args.stock.now _ _ _ c.requires.empty c.in_err-add_stations.field-0.0 _ c.in_ok-add_types.ensures c.in_err-add_stations.ensures)

pub returns-in_err-add_stock : goal.returns-in_err-add_stock
returns-in_err-add_stock c =
    let p = err_from_is_err_and c.from_residual-in_err-add_stock.result c.from_residual-in_err-add_stock.ensures.1 in
    rw (p.1, p.2) (stock_refuses c.args.types.items c.args.stations.items c.args.stock.now _ _ _ c.requires.empty c.in_err-add_stock.field-0.0 _ _ c.in_ok-add_types.ensures c.in_ok-add_stations.ensures c.in_err-add_stock.ensures)

pub returns-then-are_too_many : goal.returns-then-are_too_many
returns-then-are_too_many c =
    units_decide c.args.types.items c.args.stations.items c.args.stock.now _ _ _ c.requires.empty _ _ _ true c.in_ok-add_types.ensures c.in_ok-add_stations.ensures c.in_ok-add_stock.ensures
    (ap (λ (stock : List Stock). nat_lt MAX_UNITS (starts_of stock)) (sym c.deref.ensures.value) ∙ sym c.are_too_many.ensures ∙ c.if-are_too_many.true)

pub returns : goal.returns
returns c =
    units_decide c.args.types.items c.args.stations.items c.args.stock.now _ _ _ c.requires.empty _ _ _ false c.in_ok-add_types.ensures c.in_ok-add_stations.ensures c.in_ok-add_stock.ensures
    (ap (λ (stock : List Stock). nat_lt MAX_UNITS (starts_of stock)) (sym c.deref.ensures.value) ∙ sym c.are_too_many.ensures ∙ c.if-are_too_many.false)

pub add_stock-requires-clause-stations : goal.add_stock-requires-clause-stations
add_stock-requires-clause-stations c =
    (are_stations c.args.stations.items _ c.requires.stations (is_stations c.args.types.items c.args.stations.items c.args.stock.now _ _ _ c.requires.empty ∙ c.in_ok-add_stations.ensures)).few

pub add_stock-requires-clause-types : goal.add_stock-requires-clause-types
add_stock-requires-clause-types c =
    (are_types c.args.types.items _ c.requires.types (is_types c.args.types.items c.args.stations.items c.args.stock.now _ _ _ c.requires.empty ∙ c.in_ok-add_types.ensures)).few
