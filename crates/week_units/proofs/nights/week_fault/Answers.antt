use Rattle.week_units.proofs.Faults.{of_week}
use Rattle.week_units.proofs.nights.week_fault.Goals as goal

pub returns : goal.returns
returns c =
    of_week c.args.days.now c.in-Some.first.now c.in-Some.rest.now c.fault_from.result c.in-Some.ensures.cases.0
    c.is_sound.ensures c.fault_from.ensures
