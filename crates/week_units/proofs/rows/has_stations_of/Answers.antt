use Rattle.std.proofs.Common.{List, [], ◌∷◌, ◌++◌, ◌∙◌, ap, sym, take}
use Rattle.rules.specs.declared.records.Station.{Station}
use Rattle.week_units.proofs.Reading.{take_next}
use Rattle.week_units.proofs.rows.has_stations_of.Goals as goal

pub loop-station-preserved : goal.loop-station-preserved
loop-station-preserved c =
    let k = c.loop-station.station in
    let one = c.station.result.now in
    let stations = c.args.first.now.stations in
    take_next c.args.day.now.stations k one c.station.ensures.value
    ∙ ap (λ (ss : List Station). ss ++ one ∷ []) c.loop-station.invariant
    ∙ ap (λ (s : Station). take k stations ++ s ∷ []) (c.is_same_station.ensures.0 c.if-not-is_same_station.false)
    ∙ sym (take_next stations k c.station-in-loop-station.result.now c.station-in-loop-station.ensures.value)
