use Rattle.inventory.proofs.Solutions.{solutions_are_served as the_law}
use Rattle.inventory.proofs.solution_laws.solutions_are_served.Goals as goal

pub returns : goal.returns
returns c = record { law = the_law }
