use Rattle.std.proofs.Common.{◌≡◌, ◌++◌, take, map}
use Rattle.std.specs.Prelude.{string_bytes, codes}
use Rattle.std.specs.Fmt.{decimal}
use Rattle.answer_text.specs.Lines.{after_spaces}
use Rattle.answer_text.proofs.printing.write_run.Given as goal

-- the units so far are written
abbrev pub invariant-loop-unit : goal.invariant-loop-unit
invariant-loop-unit l = string_bytes l.text ≡ string_bytes l.fn.text ++ ((codes "run " ++ decimal l.fn.trip) ++ after_spaces (map decimal (take l.unit-index l.unit-items)))
