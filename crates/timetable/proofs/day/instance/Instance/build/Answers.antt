-- The day is that of the accepted rows, and keeps within the limits.
use Rattle.std.proofs.Common.{◌≡◌, ◌≤◌, ℕ, List, length, refl, sym, subst, rules, Ok}
use Rattle.day_tables.specs.declared.building.accepted.AcceptedRows.{AcceptedRows}
use Rattle.timetable.specs.AcceptedRows.{day_with}
use Rattle.timetable.specs.Build.{day_of}
use Rattle.timetable.specs.Day.{Day}
use Rattle.timetable.specs.InstanceParts.{AreInstanceParts}
use Rattle.timetable.specs.LinkRows.{links_in}
use Rattle.timetable.proofs.Days.{day_is_made, day_within_limits, few_links}
use Rattle.timetable.proofs.Entries.{are_stations, are_trips}
use Rattle.timetable.proofs.Linking.{are_links, do_all_meet}
use Rattle.timetable.proofs.Leading.{next_known}
use Rattle.timetable.proofs.Said.{is_day_of}
use Rattle.timetable.proofs.StockRows.{stocked}
use Rattle.timetable.proofs.Within.{entries_within}
use Rattle.timetable.proofs.Refused.{answer_is_so, none_failed}
use Rattle.timetable.proofs.day.instance.Instance.build.Goals as goal

pub parts_of-requires-clause-stations : goal.parts_of-requires-clause-stations
parts_of-requires-clause-stations c =
    let rows : AcceptedRows = c.in_ok-rows.rows in
    let made : day_of c.args.tables ≡ Ok (day_with rows) = c.in_ok-rows.ensures.exact in
    (are_stations c.args.tables.stations rows.stations.items c.requires.stations (day_is_made c.args.tables (day_with rows) made).stations).few

pub parts_of-requires-clause-trips : goal.parts_of-requires-clause-trips
parts_of-requires-clause-trips c =
    let rows : AcceptedRows = c.in_ok-rows.rows in
    let made : day_of c.args.tables ≡ Ok (day_with rows) = c.in_ok-rows.ensures.exact in
    (are_trips rows.stations.items rows.types c.args.tables.trips rows.trips.items c.requires.trips (day_is_made c.args.tables (day_with rows) made).trips).few

pub parts_of-requires-clause-links : goal.parts_of-requires-clause-links
parts_of-requires-clause-links c =
    let rows : AcceptedRows = c.in_ok-rows.rows in
    let made : day_of c.args.tables ≡ Ok (day_with rows) = c.in_ok-rows.ensures.exact in
    few_links rows.trips.items c.args.tables.links rows.links.items c.requires.links (day_is_made c.args.tables (day_with rows) made).links

pub parts_of-requires-clause-known : goal.parts_of-requires-clause-known
parts_of-requires-clause-known c =
    let rows : AcceptedRows = c.in_ok-rows.rows in
    let made : day_of c.args.tables ≡ Ok (day_with rows) = c.in_ok-rows.ensures.exact in
    next_known rows.trips.items c.args.tables.links rows.links.items rows.links.items (day_is_made c.args.tables (day_with rows) made).links refl

pub invariant_of-result : goal.invariant_of-result
invariant_of-result c =
    let rows : AcceptedRows = c.in_ok-rows.rows in
    let day : Day = day_with rows in
    let made : day_of c.args.tables ≡ Ok day = c.in_ok-rows.ensures.exact in
    let linked : links_in day.trips c.args.tables.links ≡ Ok day.links = (day_is_made c.args.tables day made).links in
    let parts : AreInstanceParts c.in_ok-parts.parts rows = c.in_ok-parts.ensures in
    record {
      units = parts.units;
      day = day_within_limits c.args.tables day c.requires.types c.requires.stations c.requires.trips c.requires.links c.requires.weights made;
      within = entries_within c.args.tables day c.requires.types c.requires.stations c.requires.trips c.requires.weights made;
      names = record {
        types = (is_day_of c.args.tables day made).type_names;
        stations = (is_day_of c.args.tables day made).station_names;
        trips = (is_day_of c.args.tables day made).trip_names;
      };
      catalogue = c.in_ok-rows.ensures.catalogue;
      few_compositions = subst (λ (cs : List (List ℕ)). length cs ≤ 1000) (sym c.in_ok-rows.ensures.catalogue) (day_is_made c.args.tables day made).compositions;
      links = are_links day c.args.tables.links linked;
      meet = do_all_meet day c.args.tables.links linked;
      stocked = stocked day c.args.tables.stock (is_day_of c.args.tables day made).stock_rows (is_day_of c.args.tables day made).stock c.requires.stock.each;
      served = (is_day_of c.args.tables day made).served;
      incoming = parts.incoming;
      outgoing = parts.outgoing;
      chains = parts.chains;
      handovers = parts.handovers;
      minutes = parts.minutes;
    }

pub returns-clause-meaning : goal.returns-clause-meaning
returns-clause-meaning c = is_day_of c.args.tables (day_with c.in_ok-rows.rows) c.in_ok-rows.ensures.exact

pub returns-clause-passed : goal.returns-clause-passed
returns-clause-passed c = none_failed c.args.tables (day_with c.in_ok-rows.rows) c.in_ok-rows.ensures.exact

pub returns-clause-limits : goal.returns-clause-limits
returns-clause-limits c = day_within_limits c.args.tables (day_with c.in_ok-rows.rows) c.requires.types c.requires.stations c.requires.trips c.requires.links c.requires.weights c.in_ok-rows.ensures.exact

pub returns-in_err-rows-clause-refusal : goal.returns-in_err-rows-clause-refusal
returns-in_err-rows-clause-refusal c = answer_is_so c.args.tables c.from_residual.result (search rules)
