-- The status that a run ends with, and what it wrote.
use Rattle.std.specs.Prelude.{ℕ, ◌≡◌, ◌≢◌, ◌⊎◌, ◌<◌, ◌↔◌, List, length, Option, Bool, true, false, IsTrue, Ok, Err}
use Rattle.rail_base.specs.declared.limits.TheConstants.{MAX_FILE_BYTES}
use Rattle.rail_base.specs.declared.numbers.Money.{Money}
use Rattle.rail_io.specs.Folders.{Files}
use Rattle.rail_io.specs.Sinks.{Appends}
use Rattle.statuses.specs.Written.{Wrote}
use Rattle.timetable.specs.Build.{day_of}
use Rattle.timetable.specs.Day.{Day}
use Rattle.day_files.specs.declared.errors.Refusal.{Refusal}
use Rattle.day_files.specs.declared.inputs.Inputs.{Inputs}
use Rattle.day_files.specs.Inputs.{day_in, inputs_in}
use Rattle.day_simulator.specs.declared.events.StepFault.{StepFault}
use Rattle.answer_text.specs.declared.answer.Answer.{Answer}
use Rattle.answer_text.specs.declared.refusal.AnswerRefusal.{AnswerRefusal}
use Rattle.answer_text.specs.Grammar.{IsAnswerRefusal}
use Rattle.answer_text.specs.Limits.{has_plan}
use Rattle.trial_day.specs.Trial.{trial_tables_of}
use Rattle.answer_check.specs.declared.checking.AnswerVerdict.{AnswerVerdict}
use Rattle.answer_check.specs.declared.checking.AnswerVerdict.TheVariants.{Valid}
use Rattle.answer_check.specs.Headline.{IsAnswered, IsTrueOf, status_said}
use Rattle.answer_check.specs.Validity.{IsValid}
use Rattle.answer_check.specs.Verdicts.{IsAnswerVerdict}
use Rattle.run_documents.specs.declared.answer_file.AnswerError.TheVariants as answer_error
use Rattle.run_documents.specs.declared.outcome.Outcome.{Outcome}
use Rattle.run_documents.specs.declared.outcome.Outcome.TheVariants.{Planned, Tried, Runs, Stops, Checked, Reported}
use Rattle.run_documents.specs.declared.outcome.Outcome.TheVariants.{NoPlan, Usage, Refused, CannotRead}
use Rattle.run_documents.specs.declared.outcome.Outcome.TheVariants.{NoAnswer, NoMemory}
use Rattle.run_documents.specs.AnswerFiles.{answer_bytes, answer_file, is_unread as answer_unread}
use Rattle.run_documents.specs.CheckTexts.{check_line}
use Rattle.run_documents.specs.Lines.{answer_refusal_text, file_refused_line, no_plan_line, refused_line, runs_line}
use Rattle.run_documents.specs.Lines.{stops_line, too_long_text}
use Rattle.run_documents.specs.Texts.{IsDocument}
use Rattle.run_documents.specs.TrialTexts.{trial_text}
use Rattle.planner_app.specs.declared.reports.ReportKind.{ReportKind}
use Rattle.planner_app.specs.DayOutcomes.{PlanRuns, RunsAt, StopsWith}
use Rattle.planner_app.specs.Readings.{AreAnswered}
use Rattle.planner_app.specs.ReportTexts.{report_text}

-- ---- a plan is run

-- the status with which a plan of a folder is run, and what was written
pub record EndsSimulation (files : Files) (dir : List ℕ) (status : ℕ) (before after : Option (List ℕ)) : Type 0 where
  -- 0 exactly where the files are accepted, and the plan runs
  pub runs : (status ≡ 0) ↔ ((inputs : Inputs) × (inputs_in files dir ≡ Ok inputs) × PlanRuns inputs)
  -- then what it costs was told
  pub costs : status ≡ 0 → (inputs : Inputs) × (inputs_in files dir ≡ Ok inputs)
      × (money : Money) × RunsAt inputs money × Appends (runs_line money) before after
  -- 1 exactly where they are accepted, and it doesn't run
  pub stops : (status ≡ 1) ↔ ((inputs : Inputs) × (inputs_in files dir ≡ Ok inputs) × ¬ (PlanRuns inputs))
  -- then the first fault was told
  pub fault : status ≡ 1 → (inputs : Inputs) × (inputs_in files dir ≡ Ok inputs)
      × (fault : StepFault) × StopsWith inputs fault × Appends (stops_line fault) before after
  -- 3 exactly where a file is refused
  pub refused : (status ≡ 3) ↔ ((why : Refusal) × (inputs_in files dir ≡ Err why))
  -- then the refusal was told
  pub told : status ≡ 3 → (why : Refusal) × (inputs_in files dir ≡ Err why) × Appends (refused_line why) before after

-- ---- an answer is checked

-- A table of the day is refused, or the file of the answer is: it is too long, or it is the text of none; and this line
-- tells it.
pub data TellsRefusal (files : Files) (dir : List ℕ) (line : List ℕ) : Type 0 where
  OfTable : (why : Refusal) → day_in files dir ≡ Err why → line ≡ refused_line why → TellsRefusal files dir line
  TooLong : (day : Day) → day_in files dir ≡ Ok day → MAX_FILE_BYTES < length (answer_bytes files dir)
      → line ≡ file_refused_line answer_file too_long_text → TellsRefusal files dir line
  NoText : (day : Day) → day_in files dir ≡ Ok day → (refusal : AnswerRefusal)
      → IsAnswerRefusal (answer_bytes files dir) refusal
      → line ≡ file_refused_line answer_file (answer_refusal_text refusal) → TellsRefusal files dir line

-- the status with which an answer of a folder is checked, and what was written
pub record EndsCheck (files : Files) (dir : List ℕ) (status : ℕ) (before after : Option (List ℕ)) : Type 0 where
  -- 0 exactly where the files are accepted, and the answer is valid
  pub valid : (status ≡ 0) ↔ ((day : Day) × (answer : Answer) × AreAnswered files dir day answer × IsValid day answer)
  -- and what a valid answer says is true of every plan of the day
  pub holds : status ≡ 0 → (day : Day) × (answer : Answer) × AreAnswered files dir day answer
      × IsTrueOf day answer.head answer.runs
  -- 1 exactly where they are accepted, and it isn't
  pub invalid : (status ≡ 1) ↔ ((day : Day) × (answer : Answer) × AreAnswered files dir day answer
      × ¬ (IsValid day answer))
  -- 3 exactly where a table or the answer is refused
  pub refused : (status ≡ 3) ↔ ((line : List ℕ) × TellsRefusal files dir line)
  -- then the refusal was told
  pub told : status ≡ 3 → (line : List ℕ) × TellsRefusal files dir line × Appends line before after
  -- where it isn't 3, what a valid answer says was told, or the first thing that is wrong with it
  pub verdict : status ≢ 3 → (day : Day) × (answer : Answer) × AreAnswered files dir day answer
      × (verdict : AnswerVerdict) × IsAnswerVerdict day answer verdict
      × Appends (check_line answer.head verdict) before after

-- ---- a report on an answer

-- there is no report on an answer, since it is not valid or has no plan; and this line tells it
pub data IsNotReported (day : Day) (answer : Answer) (line : List ℕ) : Type 0 where
  NotValid : (verdict : AnswerVerdict) → IsAnswerVerdict day answer verdict → ¬ IsValid day answer
      → line ≡ check_line answer.head verdict → IsNotReported day answer line
  WithoutPlan : IsValid day answer → has_plan answer.head ≡ false → line ≡ no_plan_line → IsNotReported day answer line

-- the status with which a report on the answer of a folder ends, and what was written
pub record EndsReport (files : Files) (dir : List ℕ) (kind : ReportKind) (status : ℕ)
    (before after : Option (List ℕ)) : Type 0 where
  -- 0 exactly where the files are accepted, and the answer is valid and has a plan
  pub reported : (status ≡ 0) ↔ ((day : Day) × (answer : Answer) × AreAnswered files dir day answer × IsValid day answer
      × IsTrue (has_plan answer.head))
  -- then the report on this plan was written
  pub written : status ≡ 0 → (day : Day) × (answer : Answer) × AreAnswered files dir day answer
      × Appends (report_text kind day answer.runs) before after
  -- 1 exactly where they are accepted, and the answer isn't valid or has no plan
  pub none : (status ≡ 1) ↔ ((day : Day) × (answer : Answer) × AreAnswered files dir day answer
      × ((¬ IsValid day answer) ⊎ (has_plan answer.head ≡ false)))
  -- then that was told
  pub why : status ≡ 1 → (day : Day) × (answer : Answer) × AreAnswered files dir day answer
      × (line : List ℕ) × IsNotReported day answer line × Appends line before after
  -- 3 exactly where a table or the answer is refused
  pub refused : (status ≡ 3) ↔ ((line : List ℕ) × TellsRefusal files dir line)
  -- then the refusal was told
  pub told : status ≡ 3 → (line : List ℕ) × TellsRefusal files dir line × Appends line before after

-- ---- a trial day

-- the status with which a trial day is planned, and what was written: the summary of an answer to the day of the
-- trial's tables, which meets the headline
pub record EndsTrial (seed trips nodes status : ℕ) (before after : Option (List ℕ)) : Type 0 where
  pub day : Day
  pub made : day_of (trial_tables_of seed trips) ≡ Ok day
  pub answered : IsAnswered (trial_text seed trips) day nodes status before after

-- ---- of an outcome

-- the status of a verdict
abbrev pub status_of_verdict : AnswerVerdict → ℕ
status_of_verdict Valid = 0
status_of_verdict other = 1

-- the status of an outcome whose document was written, and of want of memory
abbrev pub status_of : Outcome → ℕ
status_of (Planned answer) = status_said answer.head
status_of (Tried seed trips answer) = status_said answer.head
status_of (Runs cost) = 0
status_of (Stops fault) = 1
status_of (Checked head verdict) = status_of_verdict verdict
status_of (Reported text) = 0
status_of NoPlan = 1
status_of Usage = 2
status_of (Refused why) = 3
status_of (CannotRead table) = 5
status_of (NoAnswer answer_error.CannotRead) = 5
status_of (NoAnswer other) = 3
status_of NoMemory = 7

-- whether an outcome is that a file could not be read
abbrev pub is_unread : Outcome → Bool
is_unread (CannotRead table) = true
is_unread (NoAnswer error) = answer_unread error
is_unread other = false

-- What was written of an outcome's document, and the status that says so.
abbrev pub WroteOutcome : Outcome → ℕ → Option (List ℕ) → Option (List ℕ) → ℕ → ℕ → Type 0
WroteOutcome outcome status before after faults faults' =
    Wrote (IsDocument outcome) (status_of outcome) status before after faults faults'
