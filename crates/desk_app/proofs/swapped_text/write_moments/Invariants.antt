use Rattle.std.proofs.Common.{◌≡◌, ◌++◌, take}
use Rattle.std.specs.Prelude.{string_bytes}
use Rattle.answer_text.specs.Lines.{text_of_lines}
use Rattle.desk_app.specs.SwapTexts.{near_from}
use Rattle.desk_app.proofs.swapped_text.write_moments.Given as goal

-- the moments so far are written
abbrev pub invariant-loop-moment : goal.invariant-loop-moment
invariant-loop-moment l = string_bytes l.text ≡ string_bytes l.initial.text ++ text_of_lines (near_from l.station 0 (take l.moment l.flags))
