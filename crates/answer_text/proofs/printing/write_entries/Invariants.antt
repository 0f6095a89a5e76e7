use Rattle.std.proofs.Common.{◌≡◌, ◌++◌, ◌∷◌, take, map, length}
use Rattle.std.specs.Prelude.{string_bytes}
use Rattle.std.specs.Fmt.{decimal}
use Rattle.answer_text.specs.Lines.{after_spaces}
use Rattle.answer_text.specs.Texts.{entry_word}
use Rattle.answer_text.proofs.printing.write_entries.Given as goal

-- the entries so far are written
abbrev pub invariant-loop-entry : goal.invariant-loop-entry
invariant-loop-entry l = string_bytes l.text ≡ string_bytes l.fn.text ++ ((32 ∷ decimal (length l.entries)) ++ after_spaces (map entry_word (take l.entry-index l.entries)))
