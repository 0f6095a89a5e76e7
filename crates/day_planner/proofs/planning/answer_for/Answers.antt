use Rattle.std.proofs.Common.{◌+◌, ◌*◌}
use Rattle.search.proofs.Asking.{are_unasked}
use Rattle.day_planner.proofs.planning.answer_for.Goals as goal

pub returns-in_err-graphs-clause-asked : goal.returns-in_err-graphs-clause-asked
returns-in_err-graphs-clause-asked g c = are_unasked _ _
    (c.args.rounds * (2 * c.args.grant + 1)) c.args.advisors.now.items

pub returns-clause-asked : goal.returns-clause-asked
returns-clause-asked g c = c.improved_answer_for.ensures.asked

pub returns-clause-counted : goal.returns-clause-counted
returns-clause-counted g c = c.improved_answer_for.ensures.counted
