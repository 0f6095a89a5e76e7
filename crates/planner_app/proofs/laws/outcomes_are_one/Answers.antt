use Rattle.planner_app.proofs.OneOutcome.{others_are_told, outcomes_are_one, searches_are_apart}
use Rattle.planner_app.proofs.laws.outcomes_are_one.Goals as goal

pub returns-clause-one : goal.returns-clause-one
returns-clause-one c = outcomes_are_one

pub returns-clause-search : goal.returns-clause-search
returns-clause-search c = searches_are_apart

pub returns-clause-others : goal.returns-clause-others
returns-clause-others c = others_are_told
