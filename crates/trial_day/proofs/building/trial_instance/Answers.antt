use Rattle.timetable.specs.Refusals.{day_tests}
use Rattle.trial_day.proofs.Passing.{only_memory}
use Rattle.trial_day.proofs.building.trial_instance.Goals as goal

pub unreachable-requires : goal.unreachable-requires
unreachable-requires c = c.in_default.not-NoMemory (only_memory (day_tests c.in_ok-tables.tables) c.in-Err.refusal c.in_ok-tables.ensures.accepted.passed c.in-Err.ensures.refusal)
