use Rattle.std.proofs.Common.{◌≡◌, ◌++◌, take, map}
use Rattle.std.specs.Prelude.{string_bytes, codes}
use Rattle.std.specs.Fmt.{decimal}
use Rattle.answer_text.specs.Lines.{after_spaces}
use Rattle.week_text.proofs.printing.names_line.Given as goal

-- the names so far are written
abbrev pub invariant-loop-name : goal.invariant-loop-name
invariant-loop-name l = string_bytes l.line ≡ (codes "names " ++ decimal l.fn.day) ++ after_spaces (map decimal (take l.name-index l.names))
