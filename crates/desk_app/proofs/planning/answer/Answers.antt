use Rattle.std.proofs.Common.{◌+◌, ◌*◌}
use Rattle.search.proofs.Asking.{are_unasked}
use Rattle.desk_app.proofs.planning.answer.Goals as goal

pub returns-in_err-graphs-clause-asked : goal.returns-in_err-graphs-clause-asked
returns-in_err-graphs-clause-asked g c =
    are_unasked _ _ (c.args.planning.now.rounds * (2 * c.args.planning.now.nodes + 1)) c.args.advisors.now.items
