use Rattle.std.proofs.Common.{rules}
use Rattle.answer_text.proofs.reading.most_runs.Goals as goal

pub returns-else-has_plan-clause-value : goal.returns-else-has_plan-clause-value
returns-else-has_plan-clause-value c = search rules
