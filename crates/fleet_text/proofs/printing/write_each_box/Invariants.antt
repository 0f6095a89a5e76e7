use Rattle.std.proofs.Common.{◌≡◌, ◌++◌, take}
use Rattle.std.specs.Prelude.{string_bytes}
use Rattle.answer_text.specs.Lines.{text_of_lines}
use Rattle.fleet_text.specs.FleetLines.{lines_of_boxes}
use Rattle.fleet_text.proofs.printing.write_each_box.Given as goal

-- the nodes so far are written
abbrev pub invariant-loop-number : goal.invariant-loop-number
invariant-loop-number l = string_bytes l.text ≡ string_bytes l.initial.text ++ text_of_lines (lines_of_boxes (take l.number l.nodes))
