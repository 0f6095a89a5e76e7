-- A slack at each departure minute, in order.
use Rattle.std.proofs.Common.{◌≡◌, ◌<◌, length, sym, ap, ◌∙◌, arith, w64}
use Rattle.std.proofs.lemmas.Int.{ints}
use mir.Val.{to_z, of_z}
use Rattle.timetable.specs.Minutes.{minutes_of}
use Rattle.price_bound.specs.Entered.{Counted}
use Rattle.price_bound.proofs.CountedOf.{counted_of}
use Rattle.price_bound.proofs.SlackIndices.{entered_next, few_entered, lambda_below, lambda_slack, past_entered}
use Rattle.price_bound.proofs.SlackIndices.{yard_next}
use Rattle.price_bound.proofs.slacks.CountedPicks.put_yard.Goals as goal

pub put_slack-requires-clause-room : goal.put_slack-requires-clause-room
put_slack-requires-clause-room c =
    let it = counted_of c.args.self.now c.self.inside.instance.now c.self.inside.graphs.now c.self.inside.ledger.now c.self.inside.picks.now c.self.view_is c.self.invariant in
    let long = ap length c.minutes.ensures.value in
    let days = ap (λ (x : Counted). length (minutes_of x.day c.args.station)) c.self.view_is in
    let minute : c.loop-place.place < length (minutes_of c.args.self.now.day c.args.station) = omega arith in
    let below = lambda_below c.args.self.now.day c.args.station c.args.unit_type c.loop-place.place c.loop-place.index (c.requires.station, c.requires.unit_type, minute) c.loop-place.invariant.0 in
    let few = few_entered c.args.self.now.day c.args.self.now.picks c.loop-place.into c.loop-place.index c.loop-place.invariant.1 in
    let room = it.room in
    omega arith

pub put_slack-requires-clause-rising : goal.put_slack-requires-clause-rising
put_slack-requires-clause-rising c = past_entered c.args.self.now.day c.args.self.now.picks c.loop-place.into c.loop-place.index c.loop-place.index c.loop-place.invariant.1 (omega arith)

pub overflow_add-index : goal.overflow_add-index
overflow_add-index c =
    let it = counted_of c.args.self.now c.self.inside.instance.now c.self.inside.graphs.now c.self.inside.ledger.now c.self.inside.picks.now c.self.view_is c.self.invariant in
    let long = ap length c.minutes.ensures.value in
    let days = ap (λ (x : Counted). length (minutes_of x.day c.args.station)) c.self.view_is in
    let minute : c.loop-place.place < length (minutes_of c.args.self.now.day c.args.station) = omega arith in
    let below = lambda_below c.args.self.now.day c.args.station c.args.unit_type c.loop-place.place c.loop-place.index (c.requires.station, c.requires.unit_type, minute) c.loop-place.invariant.0 in
    let room = it.room in
    omega arith

pub loop-place-preserved : goal.loop-place-preserved
loop-place-preserved c =
    let long = ap length c.minutes.ensures.value in
    let days = ap (λ (x : Counted). length (minutes_of x.day c.args.station)) c.self.view_is in
    let minute : c.loop-place.place < length (minutes_of c.args.self.now.day c.args.station) = omega arith in
    let passed : to_z w64 (of_z w64 c.minute_slack.result) ≡ c.minute_slack.result = omega (arith, ints) in
    let index = c.loop-place.invariant.0 in (
      omega arith,
      entered_next c.args.self.now.day c.args.self.now.picks c.loop-place.into c.put_slack.new.into c.loop-place.index (to_z w64 (of_z w64 c.minute_slack.result)) c.loop-place.invariant.1 c.put_slack.ensures
          (lambda_slack c.args.self.now.day c.args.self.now.picks c.args.station c.args.unit_type c.loop-place.place c.loop-place.index (c.requires.station, c.requires.unit_type, minute) index ∙ sym c.minute_slack.ensures ∙ sym passed),
    )

pub returns-clause-index : goal.returns-clause-index
returns-clause-index c =
    let long = ap length c.minutes.ensures.value in
    let days = ap (λ (x : Counted). length (minutes_of x.day c.args.station)) c.self.view_is in
    let index = c.loop-place.invariant.0 in
    let next = yard_next c.args.self.now.day c.args.station c.args.unit_type in
    omega arith
