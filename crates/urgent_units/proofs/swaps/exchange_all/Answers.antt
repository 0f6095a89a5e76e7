use Rattle.std.proofs.Common.{List, length, ap, sym, ◌∙◌}
use Rattle.urgent_units.specs.UnderWay.{added}
use Rattle.urgent_units.specs.declared.swaps.MarkedLeg.{MarkedLeg}
use Rattle.urgent_units.proofs.FirstToLeave.{none_left}
use Rattle.urgent_units.proofs.swaps.exchange_all.Goals as goal

pub returns-clause-none_left : goal.returns-clause-none_left
returns-clause-none_left c =
    let empty = rw c.in_default.is at c.first_to_leave.ensures in
    ap (added (λ (legs : List MarkedLeg). length legs)) (sym c.as_slice.ensures.value) ∙ none_left c.as_slice.result.now empty
