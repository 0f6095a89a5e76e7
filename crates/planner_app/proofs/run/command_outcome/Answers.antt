use Rattle.std.proofs.Common.{refl, sym, subst}
use Rattle.search.proofs.Leaving.{left_alone}
use Rattle.commands.specs.declared.command.Command.{Command}
use Rattle.commands.specs.declared.command.Command.TheVariants as command
use Rattle.planner_app.specs.Outcomes.{ComesTo}
use Rattle.planner_app.proofs.Asking.{comes_there, searched_by}
use Rattle.planner_app.proofs.run.command_outcome.Goals as goal

pub returns-in-Plan-clause-outcome : goal.returns-in-Plan-clause-outcome
returns-in-Plan-clause-outcome g c =
    comes_there _ _ _ (λ dir. command.Plan dir c.in-Plan.nodes c.in-Plan.rounds) _ c.in-Plan.dir c.as_str.result.now c.as_str.ensures
    c.in-Plan.is c.planned.ensures.outcome

pub returns-in-Plan-clause-advisors : goal.returns-in-Plan-clause-advisors
returns-in-Plan-clause-advisors g c =
    searched_by _ _ _ c.args.command.now (command.Plan c.in-Plan.dir c.in-Plan.nodes c.in-Plan.rounds) c.in-Plan.is c.in-Plan.nodes c.in-Plan.rounds
    (refl, refl) (λ n k is. is) _ _ c.planned.ensures.advisors c.planned.ensures.asked

pub returns-in-Simulate-clause-outcome : goal.returns-in-Simulate-clause-outcome
returns-in-Simulate-clause-outcome g c =
    comes_there _ _ _ (λ dir. command.Simulate dir) _ c.in-Simulate.dir c.as_str-in-Simulate.result.now c.as_str-in-Simulate.ensures
    c.in-Simulate.is c.simulated.ensures.outcome

pub returns-in-Simulate-clause-advisors : goal.returns-in-Simulate-clause-advisors
returns-in-Simulate-clause-advisors g c = left_alone _ _ _ _ c.args.advisors.now.items

pub returns-in-Check-clause-outcome : goal.returns-in-Check-clause-outcome
returns-in-Check-clause-outcome g c =
    comes_there _ _ _ (λ dir. command.Check dir) _ c.in-Check.dir c.as_str-in-Check.result.now c.as_str-in-Check.ensures c.in-Check.is
    c.checked.ensures.outcome

pub returns-in-Check-clause-advisors : goal.returns-in-Check-clause-advisors
returns-in-Check-clause-advisors g c = left_alone _ _ _ _ c.args.advisors.now.items

pub returns-in-Duties-clause-outcome : goal.returns-in-Duties-clause-outcome
returns-in-Duties-clause-outcome g c =
    comes_there _ _ _ (λ dir. command.Duties dir) _ c.in-Duties.dir c.as_str-in-Duties.result.now c.as_str-in-Duties.ensures c.in-Duties.is
    c.reported.ensures.outcome

pub returns-in-Duties-clause-advisors : goal.returns-in-Duties-clause-advisors
returns-in-Duties-clause-advisors g c = left_alone _ _ _ _ c.args.advisors.now.items

pub returns-in-Yards-clause-outcome : goal.returns-in-Yards-clause-outcome
returns-in-Yards-clause-outcome g c =
    comes_there _ _ _ (λ dir. command.Yards dir) _ c.in-Yards.dir c.as_str-in-Yards.result.now c.as_str-in-Yards.ensures c.in-Yards.is
    c.reported-in-Yards.ensures.outcome

pub returns-in-Yards-clause-advisors : goal.returns-in-Yards-clause-advisors
returns-in-Yards-clause-advisors g c = left_alone _ _ _ _ c.args.advisors.now.items

pub returns-in-Costs-clause-outcome : goal.returns-in-Costs-clause-outcome
returns-in-Costs-clause-outcome g c =
    comes_there _ _ _ (λ dir. command.Costs dir) _ c.in-Costs.dir c.as_str-in-Costs.result.now c.as_str-in-Costs.ensures c.in-Costs.is
    c.reported-in-Costs.ensures.outcome

pub returns-in-Costs-clause-advisors : goal.returns-in-Costs-clause-advisors
returns-in-Costs-clause-advisors g c = left_alone _ _ _ _ c.args.advisors.now.items

pub returns-in-Trial-clause-outcome : goal.returns-in-Trial-clause-outcome
returns-in-Trial-clause-outcome g c =
    subst (λ (named : Command). ComesTo named (g.F.Folder.state c.args.folder.now) (g.F.Folder.state c.args.folder.now)
    c.tried.result) (sym c.in-Trial.is) c.tried.ensures.outcome

pub returns-in-Trial-clause-advisors : goal.returns-in-Trial-clause-advisors
returns-in-Trial-clause-advisors g c =
    searched_by _ _ _ c.args.command.now (command.Trial c.in-Trial.seed c.in-Trial.trips c.in-Trial.nodes c.in-Trial.rounds) c.in-Trial.is
    c.in-Trial.nodes c.in-Trial.rounds (refl, refl) (λ n k is. is) _ _ c.tried.ensures.advisors c.tried.ensures.asked
