use Rattle.unit_duties.proofs.WaitingOrder.{first_taken}
use Rattle.unit_duties.proofs.yards.take.Goals as goal

pub returns-clause-some : goal.returns-clause-some
returns-clause-some c =
    first_taken c.args.yards.now c.remove.new.self c.args.station c.args.unit_type c.args.minute c.in_ok-first.first c.in_ok-first.ensures.some c.remove.ensures.updates.0
