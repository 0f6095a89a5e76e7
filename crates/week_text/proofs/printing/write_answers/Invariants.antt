use Rattle.std.proofs.Common.{take}
use Rattle.answer_text.specs.Lines.{Adds}
use Rattle.week_text.specs.WeekLines.{answers_lines}
use Rattle.week_text.proofs.printing.write_answers.Given as goal

-- the answers so far are written
abbrev pub invariant-loop-place : goal.invariant-loop-place
invariant-loop-place l = Adds l.initial.text.items l.text.items (answers_lines 1 (take l.place l.answers))
