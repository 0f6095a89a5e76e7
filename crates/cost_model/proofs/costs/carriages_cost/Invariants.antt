-- The trips so far are counted.
use Rattle.std.proofs.Common.{◌≡◌, ◌≤◌, ◌*◌}
use Rattle.timetable.specs.Links.{list_of}
use Rattle.timetable.specs.Lists.{sum_below}
use Rattle.cost_model.specs.Sums.{carriages_on}
use Rattle.cost_model.specs.declared.trips.TheConstants.{MAX_CARRIAGE_COST}
use Rattle.cost_model.proofs.costs.carriages_cost.Given as goal

abbrev pub invariant-loop-number : goal.invariant-loop-number
invariant-loop-number g l = record {
  so_far : l.cost ≡ sum_below (λ t. carriages_on l.instance t (list_of (g.L.TypeLists.lists l.lists l.instance) t)) l.number;
  range : l.cost ≤ MAX_CARRIAGE_COST * l.number;
}
