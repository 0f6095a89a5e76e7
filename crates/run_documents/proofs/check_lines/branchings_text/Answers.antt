use Rattle.run_documents.proofs.check_lines.branchings_text.Goals as goal

pub returns : goal.returns
returns c = c.in_ok-format.ensures.ok
