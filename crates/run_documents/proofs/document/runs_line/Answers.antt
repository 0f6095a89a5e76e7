use Rattle.std.proofs.Common.{rules}
use Rattle.run_documents.proofs.document.runs_line.Goals as goal

pub returns : goal.returns
returns c = search rules
