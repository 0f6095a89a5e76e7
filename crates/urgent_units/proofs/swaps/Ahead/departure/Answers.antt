use Rattle.std.proofs.Common.{sym, ◌∙◌}
use Rattle.urgent_units.proofs.FirstToLeave.{none_next}
use Rattle.urgent_units.proofs.swaps.Ahead.departure.Goals as goal

pub returns-in-None-clause-none : goal.returns-in-None-clause-none
returns-in-None-clause-none c past = none_next c.args.self.now (sym c.next.ensures ∙ c.in-None.is)
