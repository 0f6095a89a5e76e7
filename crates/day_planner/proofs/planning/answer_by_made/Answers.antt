use Rattle.std.proofs.Common.{◌+◌, ◌*◌}
use Rattle.search.proofs.Asking.{are_unasked}
use Rattle.day_planner.proofs.planning.answer_by_made.Goals as goal

pub returns-in_err-improver-clause-asked : goal.returns-in_err-improver-clause-asked
returns-in_err-improver-clause-asked g c =
    are_unasked _ _ (c.args.allowed.rounds * (2 * c.args.allowed.branchings + 1)) c.args.advisors.now.items
