use Rattle.search.proofs.Entering.{still_entered}
use Rattle.search.proofs.frontier.Frontier.enter.Goals as goal

pub returns-in_ok-insert-clause-others : goal.returns-in_ok-insert-clause-others
returns-in_ok-insert-clause-others c = λ best other entered.
    still_entered c.args.self.now (record { ranks = c.insert.new.self }) c.in-Pending.node.bound c.in-Pending.node.number c.in_ok-insert.ensures.updates best other entered
