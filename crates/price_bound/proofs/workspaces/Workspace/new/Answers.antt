-- The tables are made with the sizes of the day.
use Rattle.std.proofs.Common.{length, ap, ◌∙◌, arith}
use Rattle.std.proofs.lemmas.List.{length-replicate}
use Rattle.price_bound.proofs.Adding.{zeros_sized}
use Rattle.price_bound.proofs.workspaces.Workspace.new.Goals as goal

pub fill_costs-requires : goal.fill_costs-requires
fill_costs-requires c = record {
  changes = record { rising = c.requires.changes.rising; later = λ k d lt. omega arith };
  room = zeros_sized _ _ c.trips-trips.result c.len-comps.result c.in_ok-costs.costs c.in_ok-costs.ensures
      c.trips-trips.ensures.value (c.len-comps.ensures.value ∙ ap length c.catalogue.ensures);
}

pub returns : goal.returns
returns c = record {
  costs = c.fill_costs.ensures;
  tables = c.in_ok-tables.ensures;
  sums = c.in_ok-sums.ensures;
  trains = c.in_ok-trains.ensures;
  rows = c.in_ok-rows.ensures;
  choice = ap length c.in_ok-choice.ensures ∙ length-replicate c.trips.result 0 ∙ c.trips.ensures.value;
}
