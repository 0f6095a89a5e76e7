use Rattle.std.proofs.Common.{◌∙◌, ap, ◌++◌, ◌∷◌, []}
use Rattle.std.specs.Fmt.{decimal}
use Rattle.std.proofs.lemmas.Result.{IfOk-equal}
use Rattle.day_reports.proofs.Filling.{nine_fields}
use Rattle.day_reports.proofs.duties_report.push_stop.Goals as goal

-- each field is the one that its call tells
pub returns : goal.returns
returns c =
    let number = c.as_bytes.ensures.value ∙ c.in_ok-number.ensures ∙ ap decimal c.unit.view_is in
    let position = c.as_bytes-2.ensures.value ∙ c.in_ok-position.ensures in
    IfOk-equal c.push.result _ _ _ c.push.ensures
    (ap (λ row. c.args.report.now ++ row ∷ [])
    (nine_fields number c.type_of_unit.ensures c.home_of_unit.ensures c.trip_name.ensures c.origin_of_trip.ensures c.departure_of_trip.ensures c.goal_of_trip.ensures c.arrival_of_trip.ensures position))
