use Rattle.std.proofs.Common.{◌≡◌, ◌++◌, take}
use Rattle.std.specs.Prelude.{string_bytes}
use Rattle.answer_text.specs.Lines.{text_of_lines}
use Rattle.answer_text.specs.Texts.{run_lines}
use Rattle.fleet_text.proofs.printing.write_runs.Given as goal

-- the runs of the trips so far are written
abbrev pub invariant-loop-trip : goal.invariant-loop-trip
invariant-loop-trip l = string_bytes l.text ≡ string_bytes l.initial.text ++ text_of_lines (run_lines 0 (take l.trip l.runs))
