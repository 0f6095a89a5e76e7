use Rattle.std.proofs.Common.{rules}
use Rattle.run_documents.proofs.check_lines.cost_text.Goals as goal

pub returns : goal.returns
returns c = search rules
