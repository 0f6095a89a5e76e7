-- The tables that are left make the day without these trips.
use Rattle.std.proofs.Common.{◌≡◌, ◌∙◌, Ok, ap, sym, subst}
use Rattle.rail_csv.specs.Rows.{AreTypeRows, AreStationRows, AreStockRows, AreTripRows, AreLinkRows, IsWeightsRow}
use Rattle.day_tables.specs.declared.building.tables.Tables.{Tables}
use Rattle.timetable.specs.Build.{day_of}
use Rattle.timetable.specs.DerivedDays.{without_trips, tables_without}
use Rattle.timetable.proofs.Accepting.{same_ok}
use Rattle.timetable.proofs.LeftTables.{are_tables_without}
use Rattle.timetable.proofs.Without.{tables_make_days_without}
use Rattle.timetable.proofs.day.instance.Instance.without_trips.Goals as goal

pub build-requires-clause-types : goal.build-requires-clause-types
build-requires-clause-types c = subst (λ (t : Tables). AreTypeRows t.types) (sym c.without_trips.ensures) (are_tables_without c.args.gone.now c.in-Ok.tables c.in-Ok.ensures.within).types

pub build-requires-clause-stations : goal.build-requires-clause-stations
build-requires-clause-stations c = subst (λ (t : Tables). AreStationRows t.stations) (sym c.without_trips.ensures) (are_tables_without c.args.gone.now c.in-Ok.tables c.in-Ok.ensures.within).stations

pub build-requires-clause-stock : goal.build-requires-clause-stock
build-requires-clause-stock c = subst (λ (t : Tables). AreStockRows t.stock) (sym c.without_trips.ensures) (are_tables_without c.args.gone.now c.in-Ok.tables c.in-Ok.ensures.within).stock

pub build-requires-clause-trips : goal.build-requires-clause-trips
build-requires-clause-trips c = subst (λ (t : Tables). AreTripRows t.trips) (sym c.without_trips.ensures) (are_tables_without c.args.gone.now c.in-Ok.tables c.in-Ok.ensures.within).trips

pub build-requires-clause-links : goal.build-requires-clause-links
build-requires-clause-links c = subst (λ (t : Tables). AreLinkRows t.links) (sym c.without_trips.ensures) (are_tables_without c.args.gone.now c.in-Ok.tables c.in-Ok.ensures.within).links

pub build-requires-clause-weights : goal.build-requires-clause-weights
build-requires-clause-weights c = subst (λ (t : Tables). IsWeightsRow t.weights) (sym c.without_trips.ensures) (are_tables_without c.args.gone.now c.in-Ok.tables c.in-Ok.ensures.within).weights

pub returns-in-Ok-build : goal.returns-in-Ok-build
returns-in-Ok-build c =
    let read : c.in-Ok.tables ≡ c.requires.tables = same_ok c.in-Ok.tables c.requires.tables (sym c.in-Ok.ensures.exact ∙ c.requires.read) in
    let made : day_of (tables_without c.args.gone.now c.in-Ok.tables) ≡ Ok (without_trips c.args.gone.now c.args.self.now) =
    tables_make_days_without c.in-Ok.tables c.args.self.now c.args.gone.now (ap day_of read ∙ c.requires.made) in
    same_ok c.in-Ok-build.later (without_trips c.args.gone.now c.args.self.now) (sym c.in-Ok-build.ensures.exact ∙ ap day_of c.without_trips.ensures ∙ made)
