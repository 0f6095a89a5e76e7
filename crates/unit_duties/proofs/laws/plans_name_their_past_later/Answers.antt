use Rattle.unit_duties.proofs.LaterDays.{plans_name_their_past_later}
use Rattle.unit_duties.proofs.laws.plans_name_their_past_later.Goals as goal

pub returns : goal.returns
returns c = record { law = plans_name_their_past_later }
