use Rattle.branch_tree.proofs.Over.{roots_are_over, sides_are_over}
use Rattle.branch_tree.proofs.laws.regions_are_over_their_day.Goals as goal

pub returns : goal.returns
returns c = record { roots = roots_are_over; sides = sides_are_over }
