use Rattle.std.proofs.Common.{◌≡◌, ◌++◌, take}
use Rattle.std.specs.Prelude.{string_bytes}
use Rattle.answer_text.specs.Lines.{text_of_lines}
use Rattle.fleet_text.specs.FleetLines.{stock_lines}
use Rattle.fleet_text.proofs.printing.write_stock.Given as goal

-- the units of the places so far are written
abbrev pub invariant-loop-place : goal.invariant-loop-place
invariant-loop-place l = string_bytes l.text ≡ string_bytes l.initial.text ++ text_of_lines (stock_lines l.types (take l.place l.stock))
