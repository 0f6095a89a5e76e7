use Rattle.week_units.proofs.LateTrips.{late_trips}
use Rattle.week_units.proofs.laws.late_trips_are_ready_too_late.Goals as goal

pub returns : goal.returns
returns c = record { law = late_trips }
