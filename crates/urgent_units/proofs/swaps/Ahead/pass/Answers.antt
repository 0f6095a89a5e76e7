use Rattle.std.proofs.Common.{List, drop, ap, ◌∙◌}
use Rattle.urgent_units.specs.declared.swaps.MarkedLeg.{MarkedLeg}
use Rattle.urgent_units.proofs.Added.{drop_more}
use Rattle.urgent_units.proofs.swaps.Ahead.pass.Goals as goal

pub returns : goal.returns
returns c = drop_more c.self.inside.done c.self.inside.legs.items ∙ ap (λ (legs : List MarkedLeg). drop 1 legs) c.self.view_is
