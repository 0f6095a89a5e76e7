use Rattle.std.proofs.Common.{rules}
use Rattle.run_documents.proofs.document.summary_of.Goals as goal

pub returns-in-Bounded : goal.returns-in-Bounded
returns-in-Bounded c = search rules
