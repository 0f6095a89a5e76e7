use Rattle.urgent_units.proofs.Decided.{tables_are_decided}
use Rattle.urgent_units.proofs.laws.tables_are_decided.Goals as goal

pub returns : goal.returns
returns c = record { law = tables_are_decided }
