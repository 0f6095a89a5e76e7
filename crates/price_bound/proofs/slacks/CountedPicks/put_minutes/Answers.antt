-- From no entry on, to the last station.
use Rattle.std.proofs.Common.{◌≡◌, length, refl, sym, ap, ◌∙◌, arith}
use Rattle.price_bound.specs.Entered.{Counted, station_index}
use Rattle.price_bound.specs.Slacks.{slack_of}
use Rattle.price_bound.proofs.Entering.{no_entries}
use Rattle.price_bound.proofs.SlackIndices.{stations_last}
use Rattle.price_bound.proofs.slacks.CountedPicks.put_minutes.Goals as goal

pub loop-station-init : goal.loop-station-init
loop-station-init c = (refl, c.requires ∙ sym (no_entries (slack_of c.args.self.now.day c.args.self.now.picks)))

pub returns-clause-index : goal.returns-clause-index
returns-clause-index c =
    let days = ap (λ (x : Counted). length x.day.stations) c.self.view_is in
    let stations = c.stations-station-end.ensures.value in
    let last : c.loop-station.station ≡ length c.args.self.now.day.stations = omega arith in
    c.loop-station.invariant.0 ∙ ap (station_index c.args.self.now.day) last ∙ stations_last c.args.self.now.day
