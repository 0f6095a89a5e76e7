-- The tables are zeros, of the sizes of the day.
use Rattle.std.proofs.Common.{◌≡◌, length, ap, subst, sym, ◌∙◌}
use Rattle.timetable.specs.Day.{Day}
use Rattle.inventory.specs.Counted.{HasPlaces}
use Rattle.inventory.proofs.Holds.{zero_places}
use Rattle.price_bound.proofs.Adding.{zeros_clear, zeros_sized}
use Rattle.price_bound.proofs.price_tables.PriceTables.new.Goals as goal

pub returns : goal.returns
returns c =
    let day : Day = c.args.instance.now in
    let types : c.len-types.result ≡ length day.types = c.len-types.ensures.value ∙ ap length c.types.ensures.value in
    let comps = c.len-comps.ensures.value ∙ ap length c.catalogue.ensures in
    record {
      takes = zeros_sized _ _ c.trips-trips.result c.len-types.result c.in_ok-takes.takes c.in_ok-takes.ensures c.trips-trips.ensures.value types;
      gives = zeros_sized _ _ c.trips-trips.result c.len-types.result c.in_ok-gives.gives c.in_ok-gives.ensures c.trips-trips.ensures.value types;
      seconds = zeros_sized _ _ c.trips-trips.result c.len-comps.result c.in_ok-seconds.seconds c.in_ok-seconds.ensures c.trips-trips.ensures.value comps;
      parts = zeros_sized _ _ c.links.result c.len-comps.result c.in_ok-parts.parts c.in_ok-parts.ensures c.links.ensures.value comps;
      clear_seconds = λ none. zeros_clear c.trips-trips.result c.len-comps.result c.in_ok-seconds.seconds c.in_ok-seconds.ensures;
      clear_parts = λ none. zeros_clear c.links.result c.len-comps.result c.in_ok-parts.parts c.in_ok-parts.ensures;
      yards = subst (HasPlaces day) (sym c.in_ok-yards.ensures) (zero_places day);
      taken_at = c.in_ok-taken_at.ensures;
      given_at = c.in_ok-given_at.ensures;
    }
