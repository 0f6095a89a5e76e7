use Rattle.urgent_units.proofs.EventLaw.{moments_are_events}
use Rattle.urgent_units.proofs.laws.moments_are_events.Goals as goal

pub returns : goal.returns
returns c = record { law = moments_are_events }
