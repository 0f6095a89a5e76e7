use Rattle.answer_text.proofs.Sizes.{texts_fit_files}
use Rattle.answer_text.proofs.laws.texts_fit_files.Goals as goal

pub returns : goal.returns
returns c = record { law = texts_fit_files }
