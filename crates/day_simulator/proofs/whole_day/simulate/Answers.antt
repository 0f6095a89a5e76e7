use Rattle.std.proofs.Common.{Ok, Err, ◌∙◌}
use Rattle.day_simulator.specs.Steps.{fixed_order}
use Rattle.day_simulator.proofs.Simulating.{steps_of, finishes_as, beginning, simulation_stops, simulation_ends_badly}
use Rattle.day_simulator.proofs.Simulating.{simulation_ends_well, runs_at_cost, never_runs}
use Rattle.day_simulator.proofs.InTurn.{stopped_in_turn}
use Rattle.day_simulator.proofs.whole_day.simulate.Goals as goal

pub returns-in-Err-clause-exact : goal.returns-in-Err-clause-exact
returns-in-Err-clause-exact c =
    let day = c.args.instance.now in
    let plan = c.args.plan.now in
    let made = steps_of _ (beginning day plan) _ (fixed_order day) _ (Err c.in-Err.fault) _ c.in_ok-day.ensures (c.as_slice.ensures.value ∙ c.in_ok-order.ensures.order) c.in-Err.is c.step_all.ensures in
    simulation_stops day plan c.in-Err.fault _ made

pub returns-in-Err-clause-stops : goal.returns-in-Err-clause-stops
returns-in-Err-clause-stops c = λ fault is runs.
    never_runs c.args.instance.now c.args.plan.now c.trips.ensures.sound c.links.ensures.sound c.requires c.in-Err.fault (returns-in-Err-clause-exact c) runs

pub returns-in-Err-clause-in_turn : goal.returns-in-Err-clause-in_turn
returns-in-Err-clause-in_turn c = λ fault is.
    stopped_in_turn c.args.instance.now c.args.plan.now c.trips.ensures.sound c.links.ensures.sound c.in-Err.fault fault (returns-in-Err-clause-exact c) is

pub returns-in-Ok-clause-exact : goal.returns-in-Ok-clause-exact
returns-in-Ok-clause-exact c =
    let day = c.args.instance.now in
    let plan = c.args.plan.now in
    let made = steps_of _ (beginning day plan) _ (fixed_order day) _ (Ok tt) _ c.in_ok-day.ensures (c.as_slice.ensures.value ∙ c.in_ok-order.ensures.order) c.in_default.is c.step_all.ensures in
    simulation_ends_well day plan c.in-Ok.cost _ made (finishes_as _ _ _ c.in-Ok.is c.finish.ensures)

pub returns-in-Ok-clause-runs : goal.returns-in-Ok-clause-runs
returns-in-Ok-clause-runs c =
    let ran = returns-in-Ok-clause-exact c in
    runs_at_cost c.args.instance.now c.args.plan.now c.trips.ensures.sound c.links.ensures.sound c.requires ran.0 c.in-Ok.cost ran.1 ran.2

pub returns-clause-exact : goal.returns-clause-exact
returns-clause-exact c =
    let day = c.args.instance.now in
    let plan = c.args.plan.now in
    let made = steps_of _ (beginning day plan) _ (fixed_order day) _ (Ok tt) _ c.in_ok-day.ensures (c.as_slice.ensures.value ∙ c.in_ok-order.ensures.order) c.in_default.is c.step_all.ensures in
    simulation_ends_badly day plan c.in-Err-finish.fault _ made (finishes_as _ _ _ c.in-Err-finish.is c.finish.ensures)

pub returns-clause-stops : goal.returns-clause-stops
returns-clause-stops c = λ fault is runs.
    never_runs c.args.instance.now c.args.plan.now c.trips.ensures.sound c.links.ensures.sound c.requires c.in-Err-finish.fault (returns-clause-exact c) runs

pub returns-clause-in_turn : goal.returns-clause-in_turn
returns-clause-in_turn c = λ fault is.
    stopped_in_turn c.args.instance.now c.args.plan.now c.trips.ensures.sound c.links.ensures.sound c.in-Err-finish.fault fault (returns-clause-exact c) is
