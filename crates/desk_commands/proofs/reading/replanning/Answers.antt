use Rattle.std.proofs.Common.{rules}
use Rattle.desk_commands.specs.PlainForm.{IsReplanning, replan_form}
use Rattle.desk_commands.proofs.Readings.{reads_as}
use Rattle.desk_commands.proofs.reading.replanning.Goals as goal

pub returns : goal.returns
returns c = reads_as replan_form IsReplanning _ _ _ _ c.in_ok-given.ensures c.in-Some.is c.replanning_of.ensures
