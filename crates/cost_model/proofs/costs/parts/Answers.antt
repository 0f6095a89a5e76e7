-- The parts add up to the cost.
use Rattle.std.proofs.Common.{◌≡◌, ◌+◌, ap, pos}
use Rattle.timetable.specs.Cost.{cost_of}
use Rattle.timetable.specs.Picks.{picked}
use Rattle.cost_model.proofs.Adding.{add_up}
use Rattle.cost_model.proofs.costs.parts.Goals as goal

pub returns-clause-whole : goal.returns-clause-whole
returns-clause-whole c =
    let day = c.args.instance.now in
    let lists = picked day c.args.picks.now in
    let same : c.carriages_cost.result + c.shortages_cost.result + c.links_cost.result ≡ cost_of day lists
    = rw (c.carriages_cost.ensures.cost, c.shortages_cost.ensures.cost, c.links_cost.ensures.cost) (add_up day lists) in
    rw (c.money.ensures, c.money-2.ensures, c.money-3.ensures) (ap pos same)
