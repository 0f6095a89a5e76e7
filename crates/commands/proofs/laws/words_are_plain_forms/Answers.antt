use Rattle.commands.proofs.Meanings.{plain_form, understood}
use Rattle.commands.proofs.laws.words_are_plain_forms.Goals as goal

pub returns : goal.returns
returns c = record { plain = λ words command. (understood words command, plain_form words command) }
