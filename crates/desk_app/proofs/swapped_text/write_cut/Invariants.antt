use Rattle.std.proofs.Common.{◌≡◌, ◌++◌, take}
use Rattle.std.specs.Prelude.{string_bytes}
use Rattle.answer_text.specs.Lines.{text_of_lines}
use Rattle.desk_app.specs.SwapTexts.{near_lines}
use Rattle.desk_app.proofs.swapped_text.write_cut.Given as goal

-- the moments of the stations so far are written
abbrev pub invariant-loop-station : goal.invariant-loop-station
invariant-loop-station l = string_bytes l.text ≡ string_bytes l.initial.text ++ text_of_lines (near_lines 0 (take l.station l.cut))
