-- The number that is found is the only one of the composition.
use Rattle.transitions.proofs.Numbers.{number_found}
use Rattle.transitions.proofs.allowed.number_of.Goals as goal

pub returns : goal.returns
returns c = number_found c.args.instance.now c.catalogue.result.now c.find.result c.args.composition.now c.catalogue.ensures c.find.ensures.some c.find.ensures.none
