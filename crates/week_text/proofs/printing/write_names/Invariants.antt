use Rattle.std.proofs.Common.{take}
use Rattle.answer_text.specs.Lines.{Adds}
use Rattle.week_text.specs.WeekLines.{names_lines}
use Rattle.week_text.proofs.printing.write_names.Given as goal

-- the names of the days so far are written
abbrev pub invariant-loop-place : goal.invariant-loop-place
invariant-loop-place l = Adds l.initial.text.items l.text.items (names_lines 1 (take l.place l.days))
