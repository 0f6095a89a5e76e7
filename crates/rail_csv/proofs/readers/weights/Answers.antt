use Rattle.rail_csv.proofs.Accepted.{weights_are}
use Rattle.rail_csv.proofs.readers.weights.Goals as goal

pub returns-clause-row : goal.returns-clause-row
returns-clause-row c = weights_are c.the_weights.result c.args.bytes.now c.the_weights.ensures
