use Rattle.cancellations.proofs.Tables.{tables_are_decided}
use Rattle.cancellations.proofs.laws.tables_are_decided.Goals as goal

pub returns : goal.returns
returns c = record { law = tables_are_decided }
