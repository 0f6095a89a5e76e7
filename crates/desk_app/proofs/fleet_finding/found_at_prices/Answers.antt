use Rattle.std.proofs.Common.{◌∙◌, List, ap, length}
use Rattle.desk_app.proofs.fleet_finding.found_at_prices.Goals as goal

pub returns-in-Ok-clause-outcome : goal.returns-in-Ok-clause-outcome
returns-in-Ok-clause-outcome g c = record {
  types = c.len-types.ensures.value ∙ ap (λ (types : List _). length types) c.types.ensures.value;
  promise = c.in-Ok.ensures.found;
}

pub returns-in-Ok-clause-asked_for : goal.returns-in-Ok-clause-asked_for
returns-in-Ok-clause-asked_for g c = c.in-Ok.ensures.counted
