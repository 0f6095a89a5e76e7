-- The document of an outcome.
use Rattle.std.specs.Prelude.{ℕ, List, ◌≡◌}
use Rattle.answer_text.specs.Texts.{text_of}
use Rattle.run_documents.specs.declared.answer_file.AnswerError.TheVariants as answer_error
use Rattle.run_documents.specs.declared.outcome.Outcome.{Outcome}
use Rattle.run_documents.specs.declared.outcome.Outcome.TheVariants.{Planned, Tried, Runs, Stops, Checked, Reported}
use Rattle.run_documents.specs.declared.outcome.Outcome.TheVariants.{NoPlan, Usage, Refused, CannotRead}
use Rattle.run_documents.specs.declared.outcome.Outcome.TheVariants.{NoAnswer, NoMemory}
use Rattle.run_documents.specs.AnswerFiles.{answer_file}
use Rattle.run_documents.specs.CheckTexts.{check_line}
use Rattle.run_documents.specs.Lines.{answer_refusal_text, cannot_read_line, file_refused_line, file_unread_line}
use Rattle.run_documents.specs.Lines.{no_plan_line, refused_line, runs_line, stops_line, too_long_text, usage_text}
use Rattle.run_documents.specs.TrialTexts.{trial_text}

-- the document of an outcome; there is none for want of memory
abbrev pub IsDocument : Outcome → List ℕ → Type 0
IsDocument (Planned answer) text = text ≡ text_of answer
IsDocument (Tried seed trips answer) text = text ≡ trial_text seed trips answer
IsDocument (Runs cost) text = text ≡ runs_line cost
IsDocument (Stops fault) text = text ≡ stops_line fault
IsDocument (Checked head verdict) text = text ≡ check_line head verdict
IsDocument (Reported report) text = text ≡ report
IsDocument NoPlan text = text ≡ no_plan_line
IsDocument Usage text = text ≡ usage_text
IsDocument (Refused refusal) text = text ≡ refused_line refusal
IsDocument (CannotRead table) text = text ≡ cannot_read_line table
IsDocument (NoAnswer answer_error.CannotRead) text = text ≡ file_unread_line answer_file
IsDocument (NoAnswer answer_error.TooLong) text = text ≡ file_refused_line answer_file too_long_text
IsDocument (NoAnswer (answer_error.Refused refusal)) text =
    text ≡ file_refused_line answer_file (answer_refusal_text refusal)
IsDocument NoMemory text = ⊥
