use Rattle.std.proofs.Common.{rules}
use Rattle.day_reports.proofs.duties_report.push_duty.Goals as goal

pub returns-then-is_empty : goal.returns-then-is_empty
returns-then-is_empty c = search rules
