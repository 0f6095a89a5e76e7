use Rattle.std.proofs.Common.{rules}
use Rattle.desk_commands.specs.PlainForm.{IsFleetPlanning, fleet_form}
use Rattle.desk_commands.proofs.Readings.{reads_as}
use Rattle.desk_commands.proofs.reading.fleet_planning.Goals as goal

pub returns : goal.returns
returns c = reads_as fleet_form IsFleetPlanning _ _ _ _ c.in_ok-given.ensures c.in-Some.is c.fleet_planning_of.ensures
