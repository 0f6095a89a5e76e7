use Rattle.std.proofs.Common.{◌∙◌, ap, sym, List, [], ◌∷◌, ◌++◌}
use Rattle.day_simulator.specs.declared.events.DayEvent.{DayEvent}
use Rattle.day_simulator.specs.declared.events.DayEvent.TheVariants.{Depart, Arrive}
use Rattle.day_simulator.proofs.FixedOrder.{events_by_trip-more}
use Rattle.day_simulator.proofs.sequence.events_by_trip.Goals as goal

pub loop-number-preserved : goal.loop-number-preserved
loop-number-preserved c =
    let n = c.loop-number.number in
    c.in_ok-push-2.ensures.items
    ∙ ap (λ (es : List DayEvent). es ++ Depart n ∷ []) (c.in_ok-push.ensures.items ∙ ap (λ (es : List DayEvent). es ++ Arrive n ∷ []) c.loop-number.invariant)
    ∙ sym (events_by_trip-more n)
