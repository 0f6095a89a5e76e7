use Rattle.std.proofs.Common.{◌<◌, length, subst, sym}
use Rattle.timetable.specs.Day.{Day}
use Rattle.day_simulator.specs.declared.events.DayEvent.{DayEvent}
use Rattle.day_simulator.specs.State.{trip_of}
use Rattle.day_simulator.proofs.whole_day.step_all.Goals as goal

pub step-requires : goal.step-requires
step-requires c =
    let known = c.requires c.loop-event.event-index c.event-item.result c.loop-event-test.true in
    let here = subst (λ (e : DayEvent). trip_of e < length c.args.day.now.day.trips) (sym c.event-item.is) known in
    subst (λ (d : Day). trip_of c.event-item.result < length d.trips) (sym c.loop-event.invariant.day) here
