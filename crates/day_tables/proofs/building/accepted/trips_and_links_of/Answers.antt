-- There are no more trips than rows; and what refuses the catalogue, the trips or the links refuses them all.
use Rattle.std.proofs.Common.{◌∙◌, List, length, ap, sym, subst, Ok}
use Rattle.std.proofs.lemmas.Result.{err_from_is_err_and}
use Rattle.rules.specs.declared.records.UnitType.{UnitType}
use Rattle.rail_base.specs.Answers.{Fails}
use Rattle.day_tables.specs.Build.{catalogue_in, trips_in, is_memory}
use Rattle.day_tables.specs.Within.{AreTrips}
use Rattle.rules.specs.declared.records.Station.{Station}
use Rattle.rules.specs.declared.records.Trip.{Trip}
use Rattle.day_tables.proofs.Entries.{are_trips}
use Rattle.day_tables.proofs.InParts.{catalogue_refuses, trips_refuse, links_refuse, trips_and_links_said}
use Rattle.day_tables.proofs.building.accepted.trips_and_links_of.Goals as goal

pub links_of-links-requires-clause-trips : goal.links_of-links-requires-clause-trips
links_of-links-requires-clause-trips c =
    let trips : AreTrips (length c.args.stations.now) c.in_ok-trips.trips = are_trips c.args.stations.now c.items.result.now c.args.trips c.in_ok-trips.trips c.requires.trips c.in_ok-trips.ensures in
    trips.few

pub returns-in_err-catalogue-clause-exact : goal.returns-in_err-catalogue-clause-exact
returns-in_err-catalogue-clause-exact c =
    let p = err_from_is_err_and c.from_residual.result c.from_residual.ensures.1 in
    rw (p.1, p.2) (catalogue_refuses c.args.types.now c.args.stations.now c.args.trips c.args.links.now c.in_err-catalogue.field-0.0
    (subst (λ (stations : List Station). Fails is_memory c.in_err-catalogue.field-0.0 (catalogue_in c.args.types.now stations)) c.entries.ensures c.in_err-catalogue.ensures.exact))

pub returns-in_err-trips-clause-exact : goal.returns-in_err-trips-clause-exact
returns-in_err-trips-clause-exact c =
    let p = err_from_is_err_and c.from_residual-in_err-trips.result c.from_residual-in_err-trips.ensures.1 in
    rw (p.1, p.2) (trips_refuse c.args.types.now c.args.stations.now c.args.trips c.args.links.now c.in_err-trips.field-0.0 _
    (ap (catalogue_in c.args.types.now) (sym c.entries.ensures) ∙ c.in_ok-catalogue.ensures.exact)
    (subst (λ (types : List UnitType). Fails is_memory c.in_err-trips.field-0.0 (trips_in c.args.stations.now types c.args.trips)) c.items.ensures c.in_err-trips.ensures))

pub returns-in_err-links-clause-exact : goal.returns-in_err-links-clause-exact
returns-in_err-links-clause-exact c =
    let p = err_from_is_err_and c.from_residual-in_err-links.result c.from_residual-in_err-links.ensures.1 in
    rw (p.1, p.2) (links_refuse c.args.types.now c.args.stations.now c.args.trips c.args.links.now c.in_err-links.field-0.0 _ _
    (ap (catalogue_in c.args.types.now) (sym c.entries.ensures) ∙ c.in_ok-catalogue.ensures.exact)
    (ap (λ (types : List UnitType). trips_in c.args.stations.now types c.args.trips) (sym c.items.ensures) ∙ c.in_ok-trips.ensures)
    c.in_err-links.ensures)

pub returns-clause-exact : goal.returns-clause-exact
returns-clause-exact c =
    trips_and_links_said c.args.types.now c.args.stations.now c.args.trips c.args.links.now _ _ _
    (ap (catalogue_in c.args.types.now) (sym c.entries.ensures) ∙ c.in_ok-catalogue.ensures.exact)
    (ap (λ (types : List UnitType). trips_in c.args.stations.now types c.args.trips) (sym c.items.ensures) ∙ c.in_ok-trips.ensures)
    c.in_ok-links.ensures
    ∙ ap (λ (trips : List Trip). Ok (trips, c.in_ok-links.field-0.items)) (sym c.into_entries-trips.ensures)
