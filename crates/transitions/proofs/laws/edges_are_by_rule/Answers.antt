use Rattle.transitions.proofs.ByRule.{edges_by_rule}
use Rattle.transitions.proofs.laws.edges_are_by_rule.Goals as goal

pub returns : goal.returns
returns c = record { law = edges_by_rule }
