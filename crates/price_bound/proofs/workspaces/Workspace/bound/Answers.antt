-- What is found along the chains is the bound.
use Rattle.std.proofs.Common.{Option, Some, length, ℤ, ◌+ℤ◌, ap, sym, subst, ◌∙◌}
use Rattle.rail_base.specs.declared.numbers.Money.{Money}
use Rattle.price_bound.specs.ChainStages.{Priced}
use Rattle.price_bound.specs.ChangedDays.{changed_day, changed_meanings}
use Rattle.price_bound.specs.FirstPaths.{AreFound}
use Rattle.price_bound.proofs.Bounding.{found_bound, none_bound}
use Rattle.price_bound.proofs.Crediting.{gives_by_type, sums_priced, takes_by_type}
use Rattle.price_bound.proofs.DayPrices.{day_priced}
use Rattle.price_bound.proofs.workspaces.Workspace.bound.Goals as goal

pub fill_sums-requires-clause-gives : goal.fill_sums-requires-clause-gives
fill_sums-requires-clause-gives c =
    gives_by_type c.args.asked.now.instance.now c.args.asked.now.multipliers.now c.fill-constant.new.self c.fill-constant.ensures.prices c.entries.ensures.multipliers

pub fill_sums-requires-clause-takes : goal.fill_sums-requires-clause-takes
fill_sums-requires-clause-takes c =
    takes_by_type c.args.asked.now.instance.now c.args.asked.now.multipliers.now c.fill-constant.new.self c.fill-constant.ensures.prices c.entries.ensures.multipliers

pub first_paths-requires-clause-priced : goal.first_paths-requires-clause-priced
first_paths-requires-clause-priced c = record {
  graphs_are = c.requires.graphs;
  multipliers_are = c.entries.ensures.multipliers;
  costs = c.requires.room.costs;
  prices = c.fill-constant.ensures.prices;
  sums = sums_priced c.args.asked.now.instance.now c.args.asked.now.region.now c.args.asked.now.multipliers.now c.fill-constant.new.self c.fill_sums.new.sums c.fill-constant.ensures.prices
      c.fill_sums.ensures;
  trains = c.requires.room.trains;
  over = c.requires.region;
}

pub returns-in-Some-clause-bound : goal.returns-in-Some-clause-bound
returns-in-Some-clause-bound c =
    let priced : Priced = record {
      day = c.args.asked.now.instance.now;
      graphs = c.args.asked.now.graphs.now;
      changes = c.args.asked.now.changes.now;
      entries = c.args.asked.now.multipliers.now;
      weight = c.args.asked.now.weight;
      region = c.args.asked.now.region.now;
    } in
    let found : AreFound priced (Some c.in-Some.value) c.copy_from.new.self =
    subst (AreFound priced (Some c.in-Some.value)) (sym c.copy_from.ensures)
    (subst (λ (o : Option Money). AreFound priced o c.first_paths.new.choice) c.in-Some.is c.first_paths.ensures.found) in
    found_bound (changed_meanings (changed_day c.args.asked.now.instance.now c.args.asked.now.changes.now)) priced
    (day_priced priced c.links.ensures.sound c.requires.changes) c.links.ensures.sound c.requires.graphs
    c.chains.ensures.whole c.requires.region c.copy_from.new.self c.args.best.now c.in-Some.value c.added.result
    (ap length c.copy_from.ensures ∙ c.first_paths.ensures.choice) found
    (c.added.ensures ∙ ap (λ (z : ℤ). z +ℤ c.in-Some.value.0) c.fill-constant.ensures.value)

pub returns-in-None-clause-bound : goal.returns-in-None-clause-bound
returns-in-None-clause-bound c =
    let priced : Priced = record {
      day = c.args.asked.now.instance.now;
      graphs = c.args.asked.now.graphs.now;
      changes = c.args.asked.now.changes.now;
      entries = c.args.asked.now.multipliers.now;
      weight = c.args.asked.now.weight;
      region = c.args.asked.now.region.now;
    } in
    none_bound (changed_meanings (changed_day c.args.asked.now.instance.now c.args.asked.now.changes.now)) priced
    (day_priced priced c.links.ensures.sound c.requires.changes) c.links.ensures.sound c.requires.graphs
    c.chains.ensures.whole c.requires.region c.args.best.now
    (subst (λ (o : Option Money). AreFound priced o c.first_paths.new.choice) c.in-None.is c.first_paths.ensures.found)
