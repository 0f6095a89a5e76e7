-- What the rows give is counted and listed as in their day.
use Rattle.std.proofs.Common.{◌≡◌, ◌∙◌, ◌<◌, ℕ, List, length, ap, sym, arith}
use Rattle.day_tables.specs.declared.building.accepted.AcceptedRows.{AcceptedRows}
use Rattle.rules.specs.declared.records.Link.{Link}
use Rattle.rules.specs.declared.records.Trip.{Trip}
use Rattle.timetable.specs.Chains.{chains_below, chains_of, next_in}
use Rattle.timetable.specs.Day.{units_in, units_of}
use Rattle.timetable.specs.Handovers.{handovers_from, handovers_of}
use Rattle.timetable.specs.Links.{arriving_in, departing_in}
use Rattle.timetable.specs.Lists.{listed}
use Rattle.timetable.specs.Minutes.{minutes_in, minutes_of}
use Rattle.timetable.proofs.LinkTables.{table_of}
use Rattle.timetable.proofs.day.instance.parts_of.Goals as goal

pub linking_of-requires-clause-known : goal.linking_of-requires-clause-known
linking_of-requires-clause-known c = λ t b is.
    let below : b < length c.args.rows.now.trips.items = c.requires.known t b (ap (λ (links : List Link). next_in links t) (sym c.deref-2.ensures.value) ∙ is) in
    omega (arith, below, c.len-trip_count.ensures, c.args.rows.now.trips.ok)

pub returns : goal.returns
unfolding units_of chains_of handovers_of minutes_of
returns c =
    let rows : AcceptedRows = c.args.rows.now in
    let trip_count : ℕ = length rows.trips.items in
    let count : c.len-trip_count.result ≡ trip_count = omega (arith, rows.trips.ok, c.len-trip_count.ensures) in
    let station_count : c.len-station_count.result ≡ length rows.stations.items = omega (arith, rows.stations.ok, c.len-station_count.ensures) in
    record {
      units = c.in_ok-units.ensures ∙ ap units_in c.deref.ensures.value;
      incoming = table_of departing_in c.in_ok-linking.linking.incoming.items c.deref-2.result.now rows.links.items c.len-trip_count.result trip_count c.in_ok-linking.ensures.incoming c.deref-2.ensures.value count;
      outgoing = table_of arriving_in c.in_ok-linking.linking.outgoing.items c.deref-2.result.now rows.links.items c.len-trip_count.result trip_count c.in_ok-linking.ensures.outgoing c.deref-2.ensures.value count;
      chains = c.in_ok-linking.ensures.chains
          ∙ ap (λ (links : List Link). chains_below links c.len-trip_count.result c.len-trip_count.result) c.deref-2.ensures.value
          ∙ ap (λ (n : ℕ). chains_below rows.links.items n n) count;
      handovers = c.in_ok-linking.ensures.handovers ∙ ap (λ (links : List Link). handovers_from 0 links) c.deref-2.ensures.value;
      minutes = c.in_ok-minutes.ensures
          ∙ ap (λ (trips : List Trip). listed (minutes_in trips) c.len-station_count.result) c.deref-3.ensures.value
          ∙ ap (λ (n : ℕ). listed (minutes_in rows.trips.items) n) station_count;
    }
