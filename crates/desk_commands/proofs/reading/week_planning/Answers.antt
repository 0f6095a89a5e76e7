use Rattle.std.proofs.Common.{rules}
use Rattle.desk_commands.specs.PlainForm.{IsWeekPlanning, week_form}
use Rattle.desk_commands.proofs.Readings.{reads_as}
use Rattle.desk_commands.proofs.reading.week_planning.Goals as goal

pub returns : goal.returns
returns c = reads_as week_form IsWeekPlanning _ _ _ _ c.in_ok-given.ensures c.in-Some.is c.week_planning_of.ensures
