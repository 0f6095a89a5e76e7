-- The parts add up to the cost.
use Rattle.std.proofs.Common.{◌≡◌, ◌+◌, ap, pos, ◌∙◌}
use Rattle.timetable.specs.Cost.{cost_of}
use Rattle.cost_model.proofs.Adding.{add_up}
use Rattle.cost_model.proofs.costs.whole_cost.Goals as goal

pub returns-clause-cost : goal.returns-clause-cost
returns-clause-cost g c =
    let day = c.args.instance.now in
    let lists = g.L.TypeLists.lists c.args.lists.now day in
    let same : c.carriages_cost.result + c.shortages_cost.result + c.links_cost.result ≡ cost_of day lists
    = rw (c.carriages_cost.ensures.cost, c.shortages_cost.ensures.cost, c.links_cost.ensures.cost) (add_up day lists) in
    c.money.ensures ∙ ap pos same
