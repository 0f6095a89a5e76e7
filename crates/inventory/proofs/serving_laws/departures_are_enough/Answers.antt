use Rattle.inventory.proofs.serving_laws.departures_are_enough.Goals as goal
use Rattle.inventory.proofs.Departures.{always}

pub returns : goal.returns
returns c = record { law = λ day lists s m enough. always day lists s m enough }
