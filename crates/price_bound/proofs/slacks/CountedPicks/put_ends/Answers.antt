-- To the last station.
use Rattle.std.proofs.Common.{◌≡◌, length, ap, ◌∙◌, arith}
use Rattle.price_bound.specs.Entered.{Counted, end_index}
use Rattle.price_bound.proofs.SlackIndices.{ends_last}
use Rattle.price_bound.proofs.slacks.CountedPicks.put_ends.Goals as goal

pub returns-clause-index : goal.returns-clause-index
returns-clause-index c =
    let days = ap (λ (x : Counted). length x.day.stations) c.self.view_is in
    let stations = c.stations-station-end.ensures.value in
    let last : c.loop-station.station ≡ length c.args.self.now.day.stations = omega arith in
    c.loop-station.invariant.0 ∙ ap (end_index c.args.self.now.day) last ∙ ends_last c.args.self.now.day
