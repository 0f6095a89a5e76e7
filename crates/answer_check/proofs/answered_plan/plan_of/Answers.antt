use Rattle.std.proofs.Common.{rules}
use Rattle.answer_check.proofs.answered_plan.plan_of.Goals as goal

pub returns-in-Some-clause-refused : goal.returns-in-Some-clause-refused
returns-in-Some-clause-refused c = search rules
