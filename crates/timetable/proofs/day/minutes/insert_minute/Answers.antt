-- The search finds the minute, or the place where it goes.
use Rattle.std.proofs.Common.{◌∙◌}
use Rattle.timetable.proofs.Minutes.{found, inserted_rise, place_found}
use Rattle.timetable.proofs.day.minutes.insert_minute.Goals as goal

pub returns-in-Ok : goal.returns-in-Ok
returns-in-Ok c = record {
  inserted = found c.args.minutes.now.items c.deref.result.now c.args.minute c.in-Ok.field-0 c.binary_search.result c.deref.ensures.value c.in-Ok.is c.requires c.binary_search.ensures.position;
  rise = c.requires;
}

pub returns-in_ok-insert-in-Err : goal.returns-in_ok-insert-in-Err
returns-in_ok-insert-in-Err c =
    let placed = c.in_ok-insert-in-Err.ensures.items
    ∙ place_found c.args.minutes.now.items c.deref.result.now c.args.minute c.in-Err.place c.binary_search.result c.deref.ensures.value c.in-Err.is c.requires c.binary_search.ensures.position in
    record { inserted = placed; rise = inserted_rise c.args.minute c.args.minutes.now.items _ placed c.requires }
