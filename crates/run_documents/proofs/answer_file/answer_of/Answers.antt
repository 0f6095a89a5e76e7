use Rattle.run_documents.proofs.RefusedBytes.{are_refused}
use Rattle.run_documents.proofs.answer_file.answer_of.Goals as goal

pub returns-in_default : goal.returns-in_default
returns-in_default c = record {
  read = tt;
  refused = are_refused c.args.bytes.now c.requires c.in-Err.refusal c.in_default.not-NoMemory c.in-Err.ensures.refused
      c.in-Err.ensures.accepted;
}
