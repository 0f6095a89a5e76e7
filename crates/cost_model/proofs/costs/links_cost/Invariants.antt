-- The links so far are counted.
use Rattle.std.proofs.Common.{◌≡◌, ◌≤◌, ◌*◌}
use Rattle.timetable.specs.Cost.{link_cost}
use Rattle.timetable.specs.Lists.{sum_below}
use Rattle.cost_model.specs.declared.links.TheConstants.{MAX_LINK_COST}
use Rattle.cost_model.proofs.costs.links_cost.Given as goal

abbrev pub invariant-loop-number : goal.invariant-loop-number
invariant-loop-number g l = record {
  so_far : l.cost ≡ sum_below (λ k. link_cost l.instance k (g.L.TypeLists.lists l.lists l.instance)) l.number;
  range : l.cost ≤ MAX_LINK_COST * l.number;
}
