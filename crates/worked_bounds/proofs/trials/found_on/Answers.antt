use Rattle.worked_bounds.proofs.Rooted.{root_over}
use Rattle.worked_bounds.proofs.trials.found_on.Goals as goal

pub found_by-requires-clause-over : goal.found_by-requires-clause-over
found_by-requires-clause-over g c = root_over c.args.day.now c.in_ok-bounds.bounds c.in_ok-root.root c.in_ok-bounds.ensures c.in_ok-root.ensures
