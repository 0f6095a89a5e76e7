-- A slack at the end of each type, in order.
use Rattle.std.proofs.Common.{◌≡◌, ◌<◌, length, sym, ap, ◌∙◌, arith, w64}
use Rattle.std.proofs.lemmas.Int.{ints}
use mir.Val.{to_z, of_z}
use Rattle.price_bound.specs.Entered.{Counted}
use Rattle.price_bound.proofs.CountedOf.{counted_of}
use Rattle.price_bound.proofs.SlackIndices.{end_next, entered_next, few_entered, mu_below, mu_slack, past_entered}
use Rattle.price_bound.proofs.slacks.CountedPicks.put_station_ends.Goals as goal

pub put_slack-requires-clause-room : goal.put_slack-requires-clause-room
put_slack-requires-clause-room c =
    let it = counted_of c.args.self.now c.self.inside.instance.now c.self.inside.graphs.now c.self.inside.ledger.now c.self.inside.picks.now c.self.view_is c.self.invariant in
    let long = ap length c.types.ensures.value in
    let days = ap (λ (x : Counted). length x.day.types) c.self.view_is in
    let there : c.loop-unit_type.unit_type < length c.args.self.now.day.types = omega arith in
    let below = mu_below c.args.self.now.day c.args.station c.loop-unit_type.unit_type c.loop-unit_type.index (c.requires.station, there) c.loop-unit_type.invariant.0 in
    let few = few_entered c.args.self.now.day c.args.self.now.picks c.loop-unit_type.into c.loop-unit_type.index c.loop-unit_type.invariant.1 in
    let room = it.room in
    omega arith

pub put_slack-requires-clause-rising : goal.put_slack-requires-clause-rising
put_slack-requires-clause-rising c = past_entered c.args.self.now.day c.args.self.now.picks c.loop-unit_type.into c.loop-unit_type.index c.loop-unit_type.index c.loop-unit_type.invariant.1 (omega arith)

pub overflow_add-index : goal.overflow_add-index
overflow_add-index c =
    let it = counted_of c.args.self.now c.self.inside.instance.now c.self.inside.graphs.now c.self.inside.ledger.now c.self.inside.picks.now c.self.view_is c.self.invariant in
    let long = ap length c.types.ensures.value in
    let days = ap (λ (x : Counted). length x.day.types) c.self.view_is in
    let there : c.loop-unit_type.unit_type < length c.args.self.now.day.types = omega arith in
    let below = mu_below c.args.self.now.day c.args.station c.loop-unit_type.unit_type c.loop-unit_type.index (c.requires.station, there) c.loop-unit_type.invariant.0 in
    let room = it.room in
    omega arith

pub loop-unit_type-preserved : goal.loop-unit_type-preserved
loop-unit_type-preserved c =
    let long = ap length c.types.ensures.value in
    let days = ap (λ (x : Counted). length x.day.types) c.self.view_is in
    let there : c.loop-unit_type.unit_type < length c.args.self.now.day.types = omega arith in
    let passed : to_z w64 (of_z w64 c.end_slack.result) ≡ c.end_slack.result = omega (arith, ints) in
    let index = c.loop-unit_type.invariant.0 in (
      omega arith,
      entered_next c.args.self.now.day c.args.self.now.picks c.loop-unit_type.into c.put_slack.new.into c.loop-unit_type.index (to_z w64 (of_z w64 c.end_slack.result)) c.loop-unit_type.invariant.1 c.put_slack.ensures
          (mu_slack c.args.self.now.day c.args.self.now.picks c.args.station c.loop-unit_type.unit_type c.loop-unit_type.index (c.requires.station, there) index ∙ sym c.end_slack.ensures ∙ sym passed),
    )

pub returns-clause-index : goal.returns-clause-index
returns-clause-index c =
    let long = ap length c.types.ensures.value in
    let days = ap (λ (x : Counted). length x.day.types) c.self.view_is in
    let index = c.loop-unit_type.invariant.0 in
    let next = end_next c.args.self.now.day c.args.station in
    omega arith
