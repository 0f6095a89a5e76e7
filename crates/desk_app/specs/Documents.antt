-- The document of an outcome.
use Rattle.std.specs.Prelude.{ℕ, ◌≡◌, ◌++◌, List, codes}
use Rattle.day_files.specs.declared.errors.Refusal.{Refusal}
use Rattle.day_files.specs.Lines.{file_refused_alone_line, file_unread_line, line_end}
use Rattle.day_files.specs.Texts.{refusal_file}
use Rattle.answer_text.specs.Texts.{text_of}
use Rattle.replan_text.specs.ReplanLines.{document_of}
use Rattle.week_text.specs.WeekLines.{week_text}
use Rattle.fleet_text.specs.FleetLines.{fleet_text}
use Rattle.desk_app.specs.declared.files.DeskFile.{DeskFile}
use Rattle.desk_app.specs.declared.files.DeskFile.TheVariants.{OfTable}
use Rattle.desk_app.specs.declared.outcome.DeskOutcome.{DeskOutcome}
use Rattle.desk_app.specs.declared.outcome.DeskOutcome.TheVariants.{Planned, Swapped, Replanned, PlannedWeek}
use Rattle.desk_app.specs.declared.outcome.DeskOutcome.TheVariants.{FleetFound}
use Rattle.desk_app.specs.declared.outcome.DeskOutcome.TheVariants.{Stops, Usage, Refused, CannotRead, NoMemory}
use Rattle.desk_app.specs.FileNames.{name_of}
use Rattle.desk_app.specs.SwapTexts.{swapped_text}

-- the plan doesn't run
abbrev pub stops_line : List ℕ
stops_line = codes "stops" ++ line_end

-- the words are not understood
abbrev pub usage_line : List ℕ
usage_line = codes "usage" ++ line_end

-- a file is refused, by its name alone
abbrev pub refused_line : DeskFile → List ℕ
refused_line file = file_refused_alone_line (name_of file)

-- the file of a table is refused, likewise
abbrev pub table_refused_line : Refusal → List ℕ
table_refused_line why = refused_line (OfTable (refusal_file why))

-- a file could not be read
abbrev pub unread_line : DeskFile → List ℕ
unread_line file = file_unread_line (name_of file)

-- the document of an outcome; there is none for want of memory
abbrev pub IsDocument : DeskOutcome → List ℕ → Type 0
IsDocument (Planned answer) text = text ≡ text_of answer
IsDocument (Swapped swapped) text = text ≡ swapped_text swapped
IsDocument (Replanned rest) text = text ≡ document_of rest.later.numbers.items rest.replanned
IsDocument (PlannedWeek week) text = text ≡ week_text week
IsDocument (FleetFound found) text = text ≡ fleet_text found.types found.fleet
IsDocument Stops text = text ≡ stops_line
IsDocument Usage text = text ≡ usage_line
IsDocument (Refused file) text = text ≡ refused_line file
IsDocument (CannotRead file) text = text ≡ unread_line file
IsDocument NoMemory text = ⊥
