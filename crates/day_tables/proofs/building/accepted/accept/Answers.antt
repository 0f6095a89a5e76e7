-- The entries are those of the day, and what is asked of them keeps within the limits.
use Rattle.std.proofs.Common.{◌≡◌, ◌∙◌, List, Ok, length, ap, subst, sym, arith}
use Rattle.std.specs.List.{list_all}
use Rattle.std.proofs.lemmas.Result.{err_from_is_err_and}
use Rattle.compositions.specs.UnitTypes.{is_within_limits}
use Rattle.rules.specs.declared.records.UnitType.{UnitType}
use Rattle.rail_base.specs.Answers.{Fails}
use Rattle.rail_csv.specs.declared.rows.LinkRow.{LinkRow}
use Rattle.day_tables.specs.Build.{yards_in, trips_and_links_in, is_memory}
use Rattle.day_tables.specs.Within.{AreTypes}
use Rattle.day_tables.specs.declared.building.accepted.Yards.{Yards}
use Rattle.day_tables.specs.declared.building.tables.Tables.{Tables}
use Rattle.rules.specs.declared.records.Station.{Station}
use Rattle.day_tables.proofs.Entries.{are_types, types_within_limits, are_stations}
use Rattle.day_tables.proofs.InParts.{yard_types, yard_stations, yards_fail, trips_and_links_fail, trips_and_links_make}
use Rattle.day_tables.proofs.building.accepted.accept.Goals as goal

pub returns-in_err-types-clause-exact : goal.returns-in_err-types-clause-exact
returns-in_err-types-clause-exact c =
    let p = err_from_is_err_and c.from_residual.result c.from_residual.ensures.1 in
    rw (p.1, p.2) (yards_fail c.args.tables _ c.in_err-types.ensures)

pub new-types-requires-clause-few : goal.new-types-requires-clause-few
new-types-requires-clause-few c =
    let types : AreTypes c.in_ok-types.field-0.types = are_types c.args.tables.types _ c.requires.types (yard_types _ _ _ _ _ _ c.in_ok-types.ensures) in
    omega (arith, types.few, ap length c.into_entries.ensures)

pub new-types-requires-clause-limits : goal.new-types-requires-clause-limits
new-types-requires-clause-limits c =
    ap (list_all is_within_limits) c.into_entries.ensures ∙ types_within_limits c.args.tables.types _ c.requires.types (yard_types _ _ _ _ _ _ c.in_ok-types.ensures)

pub trips_and_links_of-trips_and_links-requires-clause-stations : goal.trips_and_links_of-trips_and_links-requires-clause-stations
trips_and_links_of-trips_and_links-requires-clause-stations c = (are_stations c.args.tables.stations _ c.requires.stations (yard_stations _ _ _ _ _ _ c.in_ok-types.ensures)).few

pub returns-in_err-catalogue-clause-exact : goal.returns-in_err-catalogue-clause-exact
returns-in_err-catalogue-clause-exact c =
    let p = err_from_is_err_and c.from_residual-in_err-catalogue.result c.from_residual-in_err-catalogue.ensures.1 in
    let types : c.new-types.result ≡ c.in_ok-types.field-0.types = c.new-types.ensures ∙ c.into_entries.ensures in
    rw (p.1, p.2) (trips_and_links_fail c.args.tables _ _ _ c.in_ok-types.ensures c.in_err-catalogue.field-0.0
    (subst (λ (types : List UnitType). Fails is_memory c.in_err-catalogue.field-0.0 (trips_and_links_in types c.in_ok-types.field-0.stations c.args.tables.trips c.args.tables.links)) types
    (subst (λ (links : List LinkRow). Fails is_memory c.in_err-catalogue.field-0.0 (trips_and_links_in c.new-types.result c.in_ok-types.field-0.stations c.args.tables.trips links)) c.items.ensures c.in_err-catalogue.ensures.exact)))

pub returns-clause-exact : goal.returns-clause-exact
returns-clause-exact c =
    let tables : Tables = c.args.tables in
    let yards : Yards = c.in_ok-types.field-0 in
    let types : c.new-types.result ≡ yards.types = c.new-types.ensures ∙ c.into_entries.ensures in
    let stations : c.into_entries-stations.result.items ≡ yards.stations = c.into_entries-stations.ensures in
    let made : yards_in tables.types tables.stations tables.stock ≡ Ok (c.new-types.result, c.into_entries-stations.result.items, yards.stock.items) =
    c.in_ok-types.ensures
    ∙ ap (λ (types : List UnitType). Ok (types, yards.stations, yards.stock.items)) (sym types)
    ∙ ap (λ (stations : List Station). Ok (c.new-types.result, stations, yards.stock.items)) (sym stations) in
    rw (c.weights_of.ensures) (trips_and_links_make tables _ _ _ made _ _
    (ap (λ (stations : List Station). trips_and_links_in c.new-types.result stations tables.trips tables.links) stations
    ∙ ap (λ (links : List LinkRow). trips_and_links_in c.new-types.result yards.stations tables.trips links) (sym c.items.ensures)
    ∙ c.in_ok-catalogue.ensures.exact))
