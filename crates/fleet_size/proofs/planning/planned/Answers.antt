use Rattle.std.proofs.Common.{◌+◌, ◌*◌, arith}
use Rattle.search.specs.Questions.{in_rounds}
use Rattle.search.proofs.Asking.{are_asked_within, are_unasked}
use Rattle.answer_check.specs.ProvedTrees.{open_leaves}
use Rattle.fleet_size.proofs.Asked.{fewer_in_rounds}
use Rattle.fleet_size.proofs.planning.planned.Goals as goal

pub returns-in_err-graphs-clause-asked : goal.returns-in_err-graphs-clause-asked
returns-in_err-graphs-clause-asked g c =
    are_unasked _ _ (c.args.granted.rounds * (2 * c.args.granted.branchings + 1)) c.args.advisors.now.items

-- open leaves are more than is said here
pub returns-clause-counted : goal.returns-clause-counted
returns-clause-counted g c =
    let rounds = c.args.granted.rounds in
    let answer = c.in_ok-answer.answer in
    are_asked_within _ _ (in_rounds rounds (answer.branchings + open_leaves answer)) (rounds * (2 * answer.branchings + 1))
    (in_rounds rounds answer.branchings) (rounds * (2 * answer.branchings + 1)) c.args.advisors.now.items c.answer_by_made.new.advisors.items
    (fewer_in_rounds rounds answer.branchings (answer.branchings + open_leaves answer) (omega arith)) (omega arith) c.in_ok-answer.ensures.counted
