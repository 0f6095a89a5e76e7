use Rattle.std.proofs.Common.{◌≡◌, ◌++◌, take}
use Rattle.std.specs.Prelude.{string_bytes}
use Rattle.answer_text.specs.Lines.{text_of_lines}
use Rattle.replan_text.specs.ReplanLines.{old_run_lines}
use Rattle.replan_text.proofs.printing.write_old_runs.Given as goal

-- the runs of the trips so far are written
abbrev pub invariant-loop-trip : goal.invariant-loop-trip
invariant-loop-trip l = string_bytes l.text ≡ string_bytes l.initial.text ++ text_of_lines (old_run_lines l.numbers (take l.trip l.runs))
