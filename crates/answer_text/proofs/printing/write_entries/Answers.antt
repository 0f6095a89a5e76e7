use Rattle.std.proofs.Common.{◌∷◌, length, refl}
use Rattle.std.specs.Fmt.{decimal}
use Rattle.answer_text.specs.Texts.{entry_word}
use Rattle.answer_text.proofs.Written.{word_written}
use Rattle.answer_text.proofs.printing.write_entries.Goals as goal

pub loop-entry-preserved : goal.loop-entry-preserved
loop-entry-preserved c = word_written _ _ _ (32 ∷ decimal (length c.args.entries.now)) entry_word c.args.entries.now c.loop-entry.entry-index _ _ c.loop-entry-test.true refl c.loop-entry.invariant c.in_ok-write-2.ensures.bytes
