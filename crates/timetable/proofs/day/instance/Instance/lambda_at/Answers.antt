-- The number falls into the minutes of one station.
use Rattle.std.proofs.Common.{◌∙◌, ℕ, List, length, ap, arith}
use Rattle.rules.specs.declared.records.UnitType.{UnitType}
use Rattle.timetable.proofs.Indices.{IsLeft, passed, none_left, lambda_left}
use Rattle.timetable.proofs.day.instance.Instance.lambda_at.Goals as goal

pub returns-then-left-types : goal.returns-then-left-types
returns-then-left-types c =
    let left : IsLeft c.args.self.now c.args.index c.loop-station.station c.loop-station.left = c.loop-station.invariant in
    lambda_left c.args.self.now c.args.index c.loop-station.left c.loop-station.station c.len-types.result (length c.minutes.result.now)
    (omega (arith, c.loop-station-test.true, c.stations-station-end.ensures.value))
    (c.len-types.ensures.value ∙ ap (λ (types : List UnitType). length types) c.types.ensures.value)
    (ap (λ (minutes : List ℕ). length minutes) c.minutes.ensures.value) left c.if-left-types.true

pub loop-station-preserved : goal.loop-station-preserved
loop-station-preserved c =
    let left : IsLeft c.args.self.now c.args.index c.loop-station.station c.loop-station.left = c.loop-station.invariant in
    passed c.args.self.now c.args.index c.loop-station.left c.loop-station.station c.len-types.result (length c.minutes.result.now)
    (c.len-types.ensures.value ∙ ap (λ (types : List UnitType). length types) c.types.ensures.value)
    (ap (λ (minutes : List ℕ). length minutes) c.minutes.ensures.value) left c.if-left-types.false

pub unreachable-requires : goal.unreachable-requires
unreachable-requires c =
    let left : IsLeft c.args.self.now c.args.index c.loop-station.station c.loop-station.left = c.loop-station.invariant in
    none_left c.args.self.now c.args.index c.loop-station.left c.loop-station.station
    (omega (arith, c.loop-station-test.false, c.stations-station-end.ensures.value))
    (omega (arith, c.loop-station.auto.station-end, c.stations-station-end.ensures.value)) left c.requires
