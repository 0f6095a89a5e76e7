-- The outcome that words and files tell is one: the words ask for one command, and each thing that it reads is one.
use Rattle.std.proofs.Common.{◌≡◌, ◌≢◌, ℕ, List, Bool, false, Some, Result, Ok, Err, refl, sym, ap, subst, ◌∙◌, arith}
use Rattle.std.specs.Prelude.{ℤ, IsTrue}
use Rattle.rail_base.specs.declared.numbers.Money.{Money}
use Rattle.rail_csv.specs.declared.rows.Table.{Table}
use Rattle.rail_io.specs.Folders.{Files, FolderState}
use Rattle.timetable.specs.Day.{Day}
use Rattle.day_files.specs.declared.errors.Refusal.{Refusal}
use Rattle.day_files.specs.declared.errors.ReadError.{ReadError}
use Rattle.day_files.specs.declared.errors.ReadError.TheVariants as read_error
use Rattle.day_files.specs.declared.inputs.Inputs.{Inputs}
use Rattle.day_files.specs.Answers.{Reads}
use Rattle.day_files.specs.Inputs.{day_in, inputs_in}
use Rattle.day_files.specs.Order.{Reaches}
use Rattle.answer_text.specs.declared.answer.Answer.{Answer}
use Rattle.answer_text.specs.Limits.{has_plan}
use Rattle.answer_text.proofs.Texts.{refusals_are_one}
use Rattle.answer_check.specs.declared.checking.AnswerVerdict.{AnswerVerdict}
use Rattle.answer_check.specs.declared.checking.AnswerVerdict.TheVariants.{Valid}
use Rattle.answer_check.specs.Validity.{IsValid}
use Rattle.answer_check.proofs.OneVerdict.{answer_verdicts_are_one}
use Rattle.answer_check.proofs.Refuting.{only_valid}
use Rattle.run_documents.specs.declared.answer_file.AnswerError.{AnswerError}
use Rattle.run_documents.specs.declared.answer_file.AnswerError.TheVariants as answer_error
use Rattle.run_documents.specs.declared.outcome.Outcome.{Outcome}
use Rattle.run_documents.specs.declared.outcome.Outcome.TheVariants as outcome
use Rattle.run_documents.specs.AnswerFiles.{IsAnswerOf, IsWrongAnswer, answer_bytes}
use Rattle.run_documents.specs.Errors.{outcome_of_error}
use Rattle.commands.specs.declared.command.Command.{Command}
use Rattle.commands.specs.declared.command.Command.TheVariants as command
use Rattle.planner_app.specs.declared.reports.ReportKind.{ReportKind}
use Rattle.planner_app.specs.declared.reports.ReportKind.TheVariants as report
use Rattle.planner_app.specs.DayOutcomes.{IsCheckOutcome, IsPlanOutcome, IsReportOutcome, IsRunOutcome, IsTrialOutcome, IsVerdictOn}
use Rattle.planner_app.specs.DayOutcomes.{IsPlanned, NoMemoryToPlan, DoesRun, DoesStop, NoMemoryToRun, IsJudged, NoMemoryToCheck}
use Rattle.planner_app.specs.DayOutcomes.{IsWrong, IsReported, HasNoPlan, NoMemoryToReport, IsTried, NoMemoryToTry}
use Rattle.planner_app.specs.Outcomes.{ComesTo, IsOfAnswer, IsOutcome, OfCommand, InVain, Unread, NoDay, OfDay, NoInputs, OfInputs, NoAnswer, OfAnswer}
use Rattle.planner_app.specs.Readings.{NoneRead, NoMemoryToRead, NoDay as NoDayRead}
use Rattle.planner_app.specs.Laws.{IsOfSearch, IsToldByFiles, OthersAreTold, OutcomesAreOne, SearchesAreApart}
use Rattle.planner_app.proofs.Asking.{one_command}

-- at most one outcome is told so
abbrev IsOne : (Outcome → Type 0) → Type 0
IsOne Tells = (one other : Outcome) → IsToldByFiles one → IsToldByFiles other → Tells one → Tells other → one ≡ other

told_as : {it other : Outcome} → it ≡ other → IsToldByFiles it → IsToldByFiles other
told_as is told = subst IsToldByFiles is told

found_as : {it other : Outcome} → it ≡ other → IsOfSearch it → IsOfSearch other
found_as is found = subst IsOfSearch is found

-- ---- files are refused, or accepted

-- the first file that is refused tells the outcome; or what the files are accepted as does
data IsRead (X : Type 0) (read : Result X Refusal) (Tells : X → Outcome → Type 0) (it : Outcome) : Type 0 where
  NotAccepted : (why : Refusal) → read ≡ Err why → it ≡ outcome.Refused why → IsRead X read Tells it
  Accepted : (found : X) → read ≡ Ok found → Tells found it → IsRead X read Tells it

one_read : (X : Type 0) (read : Result X Refusal) (Tells : X → Outcome → Type 0) → ((found : X) → IsOne (Tells found))
    → IsOne (IsRead X read Tells)
one_read X read Tells each one other told told' (NotAccepted why refused is) (NotAccepted why' refused' is') = cc
one_read X read Tells each one other told told' (NotAccepted why refused is) (Accepted found accepted tells) = absurd cc
one_read X read Tells each one other told told' (Accepted found accepted tells) (NotAccepted why refused is) = absurd cc
one_read X read Tells each one other told told' (Accepted found accepted tells) (Accepted found' accepted' tells') =
    let same : found' ≡ found = cc in
    each found one other told told' tells (subst (λ (x : X). Tells x other) same tells')

-- ---- a day is planned, and a plan is run

none_planned : (day : Day) (nodes : ℕ) (it : Outcome) → IsToldByFiles it → IsPlanOutcome day nodes it → ⊥
none_planned day nodes it told (IsPlanned answer headline is) = told_as is told
none_planned day nodes it told (NoMemoryToPlan none) = told_as none told

none_tried : (seed trips nodes : ℕ) (it : Outcome) → IsToldByFiles it → IsTrialOutcome seed trips nodes it → ⊥
none_tried seed trips nodes it told (IsTried day made answer headline is) = told_as is told
none_tried seed trips nodes it told (NoMemoryToTry none) = told_as none told

-- a cost is one amount of money
one_money : (money other : Money) → money.0 ≡ other.0 → outcome.Runs money ≡ outcome.Runs other
one_money money other same = ap (λ (amount : ℤ). outcome.Runs (record { 0 = amount })) same

one_run : (inputs : Inputs) → IsOne (IsRunOutcome inputs)
one_run inputs one other told told' (DoesRun money at is) (DoesRun money' at' is') = is ∙ one_money money money' (at.cost ∙ sym at'.cost) ∙ sym is'
one_run inputs one other told told' (DoesRun money at is) (DoesStop fault at' is') = absurd (at'.stops at.runs)
one_run inputs one other told told' (DoesStop fault at is) (DoesRun money at' is') = absurd (at.stops at'.runs)
one_run inputs one other told told' (DoesStop fault at is) (DoesStop fault' at' is') =
    let first = at.first in let first' = at'.first in cc
one_run inputs one other told told' (NoMemoryToRun none) comes = absurd (told_as none told)
one_run inputs one other told told' (DoesRun money at is) (NoMemoryToRun none) = absurd (told_as none told')
one_run inputs one other told told' (DoesStop fault at is) (NoMemoryToRun none) = absurd (told_as none told')

-- ---- an answer is judged

module _ (day : Day) (answer : Answer) where
  one_verdict : (one other : Outcome) (verdict verdict' : AnswerVerdict) → IsVerdictOn day answer verdict → IsVerdictOn day answer verdict'
      → one ≡ outcome.Checked answer.head verdict → other ≡ outcome.Checked answer.head verdict' → one ≡ other
  one_verdict one other verdict verdict' on on' is is' =
      let same : verdict ≡ verdict' = answer_verdicts_are_one day answer verdict verdict' on.is on'.is in cc

  one_check : IsOne (IsCheckOutcome day answer)
  one_check one other told told' (IsJudged verdict on is) (IsJudged verdict' on' is') = one_verdict one other verdict verdict' on on' is is'
  one_check one other told told' (NoMemoryToCheck none) comes = absurd (told_as none told)
  one_check one other told told' (IsJudged verdict on is) (NoMemoryToCheck none) = absurd (told_as none told')

  -- a valid answer has no verdict but that it is valid
  not_wrong : (verdict : AnswerVerdict) → IsVerdictOn day answer verdict → verdict ≢ Valid → IsValid day answer → ⊥
  not_wrong verdict on wrong valid = wrong (only_valid day answer valid verdict on.is)

  true_or_false : (b : Bool) → IsTrue b → b ≡ false → ⊥
  true_or_false b is none = cc

  one_report : (kind : ReportKind) → IsOne (IsReportOutcome kind day answer)
  one_report kind one other told told' (IsWrong verdict on wrong is) (IsWrong verdict' on' wrong' is') = one_verdict one other verdict verdict' on on' is is'
  one_report kind one other told told' (IsWrong verdict on wrong is) (IsReported text of is') = absurd (not_wrong verdict on wrong of.valid)
  one_report kind one other told told' (IsWrong verdict on wrong is) (HasNoPlan valid none is') = absurd (not_wrong verdict on wrong valid)
  one_report kind one other told told' (IsReported text of is) (IsWrong verdict on wrong is') = absurd (not_wrong verdict on wrong of.valid)
  one_report kind one other told told' (IsReported text of is) (IsReported text' of' is') = is ∙ ap outcome.Reported (of.is ∙ sym of'.is) ∙ sym is'
  one_report kind one other told told' (IsReported text of is) (HasNoPlan valid none is') = absurd (true_or_false (has_plan answer.head) of.planned none)
  one_report kind one other told told' (HasNoPlan valid none is) (IsWrong verdict on wrong is') = absurd (not_wrong verdict on wrong valid)
  one_report kind one other told told' (HasNoPlan valid none is) (IsReported text of is') = absurd (true_or_false (has_plan answer.head) of.planned none)
  one_report kind one other told told' (HasNoPlan valid none is) (HasNoPlan valid' none' is') = is ∙ sym is'
  one_report kind one other told told' (NoMemoryToReport none) comes = absurd (told_as none told)
  one_report kind one other told told' (IsWrong verdict on wrong is) (NoMemoryToReport none) = absurd (told_as none told')
  one_report kind one other told told' (IsReported text of is) (NoMemoryToReport none) = absurd (told_as none told')
  one_report kind one other told told' (HasNoPlan valid without is) (NoMemoryToReport none) = absurd (told_as none told')

-- ---- an answer is refused, or read

module _ (files : Files) (dir : List ℕ) where
  abbrev bytes : List ℕ
  bytes = answer_bytes files dir

  -- one thing is wrong with the file of an answer
  one_wrong : (error other : AnswerError) → IsToldByFiles (outcome.NoAnswer error) → IsToldByFiles (outcome.NoAnswer other)
      → IsWrongAnswer files dir error → IsWrongAnswer files dir other → error ≡ other
  one_wrong answer_error.CannotRead other told told' wrong wrong' = absurd told
  one_wrong answer_error.TooLong answer_error.CannotRead told told' wrong wrong' = absurd told'
  one_wrong answer_error.TooLong answer_error.TooLong told told' wrong wrong' = refl
  one_wrong answer_error.TooLong (answer_error.Refused refusal) told told' wrong wrong' =
      absurd (omega (arith, wrong, wrong'.few))
  one_wrong (answer_error.Refused refusal) answer_error.CannotRead told told' wrong wrong' = absurd told'
  one_wrong (answer_error.Refused refusal) answer_error.TooLong told told' wrong wrong' =
      absurd (omega (arith, wrong', wrong.few))
  one_wrong (answer_error.Refused refusal) (answer_error.Refused refusal') told told' wrong wrong' =
      ap answer_error.Refused (refusals_are_one bytes refusal refusal' wrong.refused wrong'.refused)

  -- nothing is wrong with it where it is read
  wrong_or_read : (error : AnswerError) (answer : Answer) → IsToldByFiles (outcome.NoAnswer error)
      → IsWrongAnswer files dir error → IsAnswerOf bytes answer → ⊥
  wrong_or_read answer_error.CannotRead answer told wrong is = told
  wrong_or_read answer_error.TooLong answer told wrong is = omega (arith, wrong, is.few)
  wrong_or_read (answer_error.Refused refusal) answer told wrong is = wrong.none answer is.text

  -- what is wrong with the file of the answer tells the outcome, or what is found of the answer does
  data IsAnswered (Tells : Answer → Outcome → Type 0) (it : Outcome) : Type 0 where
    WrongFile : (error : AnswerError) → IsWrongAnswer files dir error → it ≡ outcome.NoAnswer error → IsAnswered Tells it
    RightFile : (answer : Answer) → IsAnswerOf bytes answer → Tells answer it → IsAnswered Tells it

  one_answered : (Tells : Answer → Outcome → Type 0) → ((answer : Answer) → IsOne (Tells answer)) → IsOne (IsAnswered Tells)
  one_answered Tells each one other told told' (WrongFile error wrong is) (WrongFile error' wrong' is') =
      is ∙ ap outcome.NoAnswer (one_wrong error error' (told_as is told) (told_as is' told') wrong wrong') ∙ sym is'
  one_answered Tells each one other told told' (WrongFile error wrong is) (RightFile answer right tells) =
      absurd (wrong_or_read error answer (told_as is told) wrong right)
  one_answered Tells each one other told told' (RightFile answer right tells) (WrongFile error wrong is) =
      absurd (wrong_or_read error answer (told_as is told') wrong right)
  one_answered Tells each one other told told' (RightFile answer right tells) (RightFile answer' right' tells') =
      let same : answer' ≡ answer = right'.only answer right.text in
      each answer one other told told' tells (subst (λ (a : Answer). Tells a other) same tells')

-- ---- by the command

module _ (files : Files) where
  -- the day of the files, and its answer, tell the outcome
  abbrev ByAnswer : List ℕ → (Day → Answer → Outcome → Type 0) → Outcome → Type 0
  ByAnswer dir Tells it = IsRead Day (day_in files dir) (λ day. IsAnswered files dir (Tells day)) it

  -- what the files tell of a command
  abbrev OfFiles : Command → Outcome → Type 0
  OfFiles (command.Plan dir nodes rounds) it = IsRead Day (day_in files dir) (λ day. IsPlanOutcome day nodes) it
  OfFiles (command.Simulate dir) it = IsRead Inputs (inputs_in files dir) IsRunOutcome it
  OfFiles (command.Check dir) it = ByAnswer dir IsCheckOutcome it
  OfFiles (command.Duties dir) it = ByAnswer dir (IsReportOutcome report.Duties) it
  OfFiles (command.Yards dir) it = ByAnswer dir (IsReportOutcome report.Yards) it
  OfFiles (command.Costs dir) it = ByAnswer dir (IsReportOutcome report.Costs) it
  OfFiles (command.Trial seed trips nodes rounds) it = IsTrialOutcome seed trips nodes it

  one_by_answer : (dir : List ℕ) (Tells : Day → Answer → Outcome → Type 0) → ((day : Day) (answer : Answer) → IsOne (Tells day answer))
      → IsOne (ByAnswer dir Tells)
  one_by_answer dir Tells each =
      one_read Day (day_in files dir) (λ day. IsAnswered files dir (Tells day)) (λ day. one_answered files dir (Tells day) (each day))

  one_of_files : (named : Command) → IsOne (OfFiles named)
  one_of_files (command.Plan dir nodes rounds) =
      one_read Day (day_in files dir) (λ day. IsPlanOutcome day nodes)
      (λ day one other told told' comes comes'. absurd (none_planned day nodes one told comes))
  one_of_files (command.Simulate dir) = one_read Inputs (inputs_in files dir) IsRunOutcome one_run
  one_of_files (command.Check dir) = one_by_answer dir IsCheckOutcome one_check
  one_of_files (command.Duties dir) = one_by_answer dir (IsReportOutcome report.Duties) (λ day answer. one_report day answer report.Duties)
  one_of_files (command.Yards dir) = one_by_answer dir (IsReportOutcome report.Yards) (λ day answer. one_report day answer report.Yards)
  one_of_files (command.Costs dir) = one_by_answer dir (IsReportOutcome report.Costs) (λ day answer. one_report day answer report.Costs)
  one_of_files (command.Trial seed trips nodes rounds) = λ one other told told' comes comes'. absurd (none_tried seed trips nodes one told comes)

  -- ---- beside a search

  no_search_runs : (inputs : Inputs) (it : Outcome) → IsOfSearch it → IsRunOutcome inputs it → ⊥
  no_search_runs inputs it found (DoesRun money at is) = found_as is found
  no_search_runs inputs it found (DoesStop fault at is) = found_as is found
  no_search_runs inputs it found (NoMemoryToRun none) = found_as none found

  no_search_checks : (day : Day) (answer : Answer) (it : Outcome) → IsOfSearch it → IsCheckOutcome day answer it → ⊥
  no_search_checks day answer it found (IsJudged verdict on is) = found_as is found
  no_search_checks day answer it found (NoMemoryToCheck none) = found_as none found

  no_search_reports : (kind : ReportKind) (day : Day) (answer : Answer) (it : Outcome) → IsOfSearch it → IsReportOutcome kind day answer it → ⊥
  no_search_reports kind day answer it found (IsWrong verdict on wrong is) = found_as is found
  no_search_reports kind day answer it found (IsReported text of is) = found_as is found
  no_search_reports kind day answer it found (HasNoPlan valid none is) = found_as is found
  no_search_reports kind day answer it found (NoMemoryToReport none) = found_as none found

  no_search_by_answer : (dir : List ℕ) (Tells : Day → Answer → Outcome → Type 0) (it : Outcome) → IsOfSearch it
      → ((day : Day) (answer : Answer) → Tells day answer it → ⊥) → ByAnswer dir Tells it → ⊥
  no_search_by_answer dir Tells it found none (NotAccepted why refused is) = found_as is found
  no_search_by_answer dir Tells it found none (Accepted day accepted (WrongFile error wrong is)) = found_as is found
  no_search_by_answer dir Tells it found none (Accepted day accepted (RightFile answer right tells)) = none day answer tells

  apart : (named : Command) (one other : Outcome) → IsToldByFiles one → IsOfSearch other → OfFiles named one → OfFiles named other → ⊥
  apart (command.Plan dir nodes rounds) one other told found (NotAccepted why refused is) (NotAccepted why' refused' is') = found_as is' found
  apart (command.Plan dir nodes rounds) one other told found (NotAccepted why refused is) (Accepted day accepted comes) = cc
  apart (command.Plan dir nodes rounds) one other told found (Accepted day accepted comes) tells = none_planned day nodes one told comes
  apart (command.Simulate dir) one other told found tells (NotAccepted why refused is) = found_as is found
  apart (command.Simulate dir) one other told found tells (Accepted inputs accepted comes) = no_search_runs inputs other found comes
  apart (command.Check dir) one other told found tells tells' =
      no_search_by_answer dir IsCheckOutcome other found (λ day answer. no_search_checks day answer other found) tells'
  apart (command.Duties dir) one other told found tells tells' =
      no_search_by_answer dir (IsReportOutcome report.Duties) other found (λ day answer. no_search_reports report.Duties day answer other found) tells'
  apart (command.Yards dir) one other told found tells tells' =
      no_search_by_answer dir (IsReportOutcome report.Yards) other found (λ day answer. no_search_reports report.Yards day answer other found) tells'
  apart (command.Costs dir) one other told found tells tells' =
      no_search_by_answer dir (IsReportOutcome report.Costs) other found (λ day answer. no_search_reports report.Costs day answer other found) tells'
  apart (command.Trial seed trips nodes rounds) one other told found tells tells' = none_tried seed trips nodes one told tells

-- ---- what a run comes to is told by the files

-- neither that a table could not be read, nor that memory ran out, is meant
record LeavesOut (Meant : Outcome → Type 0) : Type 0 where
  pub unread : (table : Table) → ¬ Meant (outcome.CannotRead table)
  pub memory : ¬ Meant outcome.NoMemory

module _ (files : Files) (old new : FolderState)
    (tells : old.holds ≡ Some files) (Meant : Outcome → Type 0) (leaves : LeavesOut Meant) (it : Outcome) (meant : Meant it) where
  by_error : {X : Type 0} (read : Result X Refusal) (Tells : X → Outcome → Type 0) (dir : List ℕ) (error : ReadError)
      → Reads {Y = X} (Reaches files dir) (Err error) read → it ≡ outcome_of_error error → IsRead X read Tells it
  by_error read Tells dir (read_error.Refused why) said is = NotAccepted why said is
  by_error read Tells dir (read_error.CannotRead table) said is = absurd (leaves.unread table (subst Meant is meant))
  by_error read Tells dir read_error.NoMemory said is = absurd (leaves.memory (subst Meant is meant))

  by_answer : (dir : List ℕ) (Tells : Day → Answer → Outcome → Type 0)
      → IsOfAnswer dir (λ day answer. Tells day answer it) old new it → ByAnswer files dir Tells it
  by_answer dir Tells (NoAnswer (NoDayRead unread)) =
      by_error (day_in files dir) (λ day. IsAnswered files dir (Tells day)) dir unread.error (unread.of_tables.told files tells) unread.is
  by_answer dir Tells (NoAnswer (NoneRead day read error wrong is)) = Accepted day (read.told files tells) (WrongFile error (wrong.told files tells) is)
  by_answer dir Tells (NoAnswer (NoMemoryToRead none)) = absurd (leaves.memory (subst Meant none meant))
  by_answer dir Tells (OfAnswer day answer read comes) = Accepted day (read.of_day.told files tells) (RightFile answer (read.told files tells) comes)

  of_files : (named : Command) → ComesTo named old new it → OfFiles files named it
  of_files (command.Plan dir nodes rounds) (NoDay unread) =
      by_error (day_in files dir) (λ day. IsPlanOutcome day nodes) dir unread.error (unread.of_tables.told files tells) unread.is
  of_files (command.Plan dir nodes rounds) (OfDay day read comes) = Accepted day (read.told files tells) comes
  of_files (command.Simulate dir) (NoInputs error read is) =
      by_error (inputs_in files dir) IsRunOutcome dir error (read.told files tells) is
  of_files (command.Simulate dir) (OfInputs inputs read comes) = Accepted inputs (read.told files tells) comes
  of_files (command.Check dir) comes = by_answer dir IsCheckOutcome comes
  of_files (command.Duties dir) comes = by_answer dir (IsReportOutcome report.Duties) comes
  of_files (command.Yards dir) comes = by_answer dir (IsReportOutcome report.Yards) comes
  of_files (command.Costs dir) comes = by_answer dir (IsReportOutcome report.Costs) comes
  of_files (command.Trial seed trips nodes rounds) comes = comes

told_leaves : LeavesOut IsToldByFiles
told_leaves = record { unread = λ table told. told; memory = λ told. told }

found_leaves : LeavesOut IsOfSearch
found_leaves = record { unread = λ table found. found; memory = λ found. found }

-- ---- the laws

pub outcomes_are_one : OutcomesAreOne
outcomes_are_one words files old new old' new' one other tells tells' told told' is is' = by is is'
  where
    by : IsOutcome words old new one → IsOutcome words old' new' other → one ≡ other
    by (OfCommand named asked comes) (OfCommand named' asked' comes') =
        let there : OfFiles files named' other =
        of_files files old' new' tells' IsToldByFiles told_leaves other told' named' comes' in
        one_of_files files named one other told told'
        (of_files files old new tells IsToldByFiles told_leaves one told named comes)
        (subst (λ (it : Command). OfFiles files it other) (one_command words named' named asked' asked) there)
    by (OfCommand named asked comes) (InVain vain usage) = absurd (vain named asked)
    by (InVain vain usage) (OfCommand named asked comes) = absurd (vain named asked)
    by (InVain vain usage) (InVain vain' usage') = usage ∙ sym usage'
    by (Unread none) comes = absurd (told_as none told)
    by (OfCommand named asked comes) (Unread none) = absurd (told_as none told')
    by (InVain vain usage) (Unread none) = absurd (told_as none told')

pub searches_are_apart : SearchesAreApart
searches_are_apart words files old new old' new' one other tells tells' told found is is' = by is is'
  where
    by : IsOutcome words old new one → IsOutcome words old' new' other → ⊥
    by (OfCommand named asked comes) (OfCommand named' asked' comes') =
        let there : OfFiles files named' other =
        of_files files old' new' tells' IsOfSearch found_leaves other found named' comes' in
        apart files named one other told found
        (of_files files old new tells IsToldByFiles told_leaves one told named comes)
        (subst (λ (it : Command). OfFiles files it other) (one_command words named' named asked' asked) there)
    by (InVain vain usage) (OfCommand named asked comes) = vain named asked
    by comes (InVain vain usage) = found_as usage found
    by comes (Unread none) = found_as none found
    by (Unread none) (OfCommand named asked comes) = told_as none told

-- ---- the others

pub others_are_told : OthersAreTold
others_are_told (outcome.Planned answer) undisturbed other = absurd (other tt)
others_are_told (outcome.Tried seed trips answer) undisturbed other = absurd (other tt)
others_are_told (outcome.Runs cost) undisturbed other = tt
others_are_told (outcome.Stops fault) undisturbed other = tt
others_are_told (outcome.Checked head verdict) undisturbed other = tt
others_are_told (outcome.Reported text) undisturbed other = tt
others_are_told outcome.NoPlan undisturbed other = tt
others_are_told outcome.Usage undisturbed other = tt
others_are_told (outcome.Refused why) undisturbed other = tt
others_are_told (outcome.CannotRead table) undisturbed other = absurd (undisturbed.0 refl)
others_are_told outcome.NoMemory undisturbed other = absurd (undisturbed.2 refl)
others_are_told (outcome.NoAnswer answer_error.CannotRead) undisturbed other = absurd (undisturbed.0 refl)
others_are_told (outcome.NoAnswer answer_error.TooLong) undisturbed other = tt
others_are_told (outcome.NoAnswer (answer_error.Refused refusal)) undisturbed other = tt
