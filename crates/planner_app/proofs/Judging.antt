-- How the check of an answer ends, and a report on it.
use Rattle.std.proofs.Common.{◌≡◌, ◌≢◌, ◌⊎◌, inl, inr, ℕ, Bool, false, List, Option, Some, Ok, Err, refl, sym, ap, ◌∙◌, subst, arith}
use Rattle.std.specs.Prelude.{IsTrue}
use Rattle.rail_io.specs.Folders.{Files, FolderState, Rose}
use Rattle.rail_io.specs.Sinks.{Appends}
use Rattle.timetable.specs.Day.{Day}
use Rattle.day_files.specs.declared.errors.Refusal.{Refusal}
use Rattle.day_files.specs.declared.errors.ReadError.{ReadError}
use Rattle.day_files.specs.declared.errors.ReadError.TheVariants as read_error
use Rattle.day_files.specs.Answers.{Reads}
use Rattle.day_files.specs.Inputs.{day_in}
use Rattle.day_files.specs.Order.{Reaches}
use Rattle.answer_text.specs.declared.answer.Answer.{Answer}
use Rattle.answer_text.specs.Limits.{has_plan}
use Rattle.answer_check.specs.declared.checking.AnswerVerdict.{AnswerVerdict}
use Rattle.answer_check.specs.declared.checking.AnswerVerdict.TheVariants.{Valid}
use Rattle.answer_check.specs.Validity.{IsValid}
use Rattle.answer_check.proofs.Refuting.{valid_or_not}
use Rattle.run_documents.specs.declared.answer_file.AnswerError.{AnswerError}
use Rattle.run_documents.specs.declared.answer_file.AnswerError.TheVariants as answer_error
use Rattle.run_documents.specs.declared.outcome.Outcome.{Outcome}
use Rattle.run_documents.specs.declared.outcome.Outcome.TheVariants as outcome
use Rattle.run_documents.specs.AnswerFiles.{IsAnswerCaused, IsWrongAnswer, answer_file}
use Rattle.run_documents.specs.CheckTexts.{check_line}
use Rattle.run_documents.specs.Errors.{outcome_of_error}
use Rattle.run_documents.specs.Lines.{answer_refusal_text, file_refused_line, no_plan_line, refused_line, too_long_text}
use Rattle.planner_app.specs.declared.reports.ReportKind.{ReportKind}
use Rattle.planner_app.specs.DayOutcomes.{IsCheckOutcome, IsJudged, NoMemoryToCheck, IsVerdictOn}
use Rattle.planner_app.specs.DayOutcomes.{IsReportOutcome, IsWrong, IsReported, HasNoPlan, NoMemoryToReport}
use Rattle.planner_app.specs.Outcomes.{IsAnswerChecked, IsAnswerReported, NoAnswer, OfAnswer}
use Rattle.planner_app.specs.Readings.{AreAnswered, IsReadAnswer, IsUnanswered, NoDay, NoneRead, NoMemoryToRead}
use Rattle.planner_app.specs.ReportTexts.{report_text}
use Rattle.planner_app.specs.Statuses.{TellsRefusal, EndsCheck, EndsReport, IsNotReported, NotValid, WithoutPlan, NoText, OfTable, TooLong, status_of, status_of_verdict}
use Rattle.planner_app.proofs.Simulating.{error_status, memory_status}
use Rattle.planner_app.proofs.Statuses.{verdict_status, wrong_status}
use Rattle.planner_app.proofs.Written.{IsOfCommand, IsWritten, appends_line, not_memory, of_command, read_status, with_status, written_as}

-- ---- files are refused, or accepted

module _ (files : Files) (dir : List ℕ) where
  pub same_day : (one other : Day) → day_in files dir ≡ Ok one → day_in files dir ≡ Ok other → one ≡ other
  same_day one other first second = cc

  pub day_or_not : (day : Day) (why : Refusal) → day_in files dir ≡ Ok day → day_in files dir ≡ Err why → ⊥
  day_or_not day why accepted refused = cc

  -- the answer of the files is one
  same_answer : (day other : Day) (answer another : Answer) → AreAnswered files dir day answer → AreAnswered files dir other another
      → answer ≡ another
  same_answer day other answer another first second = first.of_file.only another second.of_file.text

  answered_once : (day other : Day) (answer another : Answer) → AreAnswered files dir day answer → AreAnswered files dir other another
      → IsValid day answer → IsValid other another
  answered_once day other answer another first second valid =
      subst (λ (d : Day). IsValid d another) (same_day day other first.of_tables second.of_tables)
      (subst (λ (a : Answer). IsValid day a) (same_answer day other answer another first second) valid)

  -- the answer of the files has one plan or none
  one_plan : (day other : Day) (answer another : Answer) → AreAnswered files dir day answer
      → AreAnswered files dir other another → has_plan answer.head ≡ has_plan another.head
  one_plan day other answer another first second =
      subst (λ (a : Answer). has_plan answer.head ≡ has_plan a.head) (same_answer day other answer another first second) refl

  -- files that are accepted are not refused
  answered_right : (day : Day) (answer : Answer) (line : List ℕ) → AreAnswered files dir day answer → TellsRefusal files dir line → ⊥
  answered_right day answer line accepted (OfTable why refused is) = day_or_not day why accepted.of_tables refused
  answered_right day answer line accepted (TooLong other known longer is) = omega (arith, accepted.of_file.few, longer)
  answered_right day answer line accepted (NoText other known refusal refused is) = accepted.of_file.right refusal refused

  -- an outcome that says that files are refused, and its line, which was written
  record AreToldRefused (it : Outcome) (before after : Option (List ℕ)) : Type 0 where
    pub line : List ℕ
    pub refused : TellsRefusal files dir line
    pub appended : Appends line before after
    pub status : status_of it ≡ 3

  refused_tables : (before after : Option (List ℕ)) (error : ReadError) → Reads {Y = Day} (Reaches files dir) (Err error) (day_in files dir)
      → IsWritten (outcome_of_error error) before after → AreToldRefused (outcome_of_error error) before after
  refused_tables before after (read_error.Refused why) said written = record {
    line = refused_line why;
    refused = OfTable why said refl;
    appended = appends_line (refused_line why) written written.document;
    status = refl;
  }
  refused_tables before after (read_error.CannotRead read) said written = absurd (written.undisturbed.0 refl)
  refused_tables before after read_error.NoMemory said written = absurd (written.undisturbed.2 refl)

  refused_answer : (before after : Option (List ℕ)) (day : Day) (error : AnswerError) → day_in files dir ≡ Ok day → IsWrongAnswer files dir error
      → IsWritten (outcome.NoAnswer error) before after → AreToldRefused (outcome.NoAnswer error) before after
  refused_answer before after day answer_error.CannotRead accepted wrong written = absurd (written.undisturbed.0 refl)
  refused_answer before after day answer_error.TooLong accepted wrong written =
      let line : List ℕ = file_refused_line answer_file too_long_text in
      record { line = line; refused = TooLong day accepted wrong refl; appended = appends_line line written written.document; status = refl }
  refused_answer before after day (answer_error.Refused refusal) accepted wrong written =
      let line : List ℕ = file_refused_line answer_file (answer_refusal_text refusal) in
      record {
        line = line;
        refused = NoText day accepted refusal wrong.refused refl;
        appended = appends_line line written written.document;
        status = refl;
      }

  told_as : (it other : Outcome) (before after : Option (List ℕ)) → it ≡ other → AreToldRefused other before after → AreToldRefused it before after
  told_as it other before after is told = subst (λ (o : Outcome). AreToldRefused o before after) (sym is) told

module _ (dir : List ℕ) (old new : FolderState) (it : Outcome) where
  refused_files : (files : Files) → old.holds ≡ Some files → (before after : Option (List ℕ)) → IsWritten it before after
      → IsUnanswered dir old new it → AreToldRefused files dir it before after
  refused_files files tells before after written (NoDay unread) =
      told_as files dir it (outcome_of_error unread.error) before after unread.is
      (refused_tables files dir before after unread.error (unread.of_tables.told files tells) (written_as unread.is written))
  refused_files files tells before after written (NoneRead day read error wrong is) =
      told_as files dir it (outcome.NoAnswer error) before after is
      (refused_answer files dir before after day error (read.told files tells) (wrong.told files tells) (written_as is written))
  refused_files files tells before after written (NoMemoryToRead none) = absurd (not_memory none written)

  accepted_by : (files : Files) → old.holds ≡ Some files → (day : Day) (answer : Answer) → IsReadAnswer dir old day answer → AreAnswered files dir day answer
  accepted_by files tells day answer read = record { of_tables = read.of_day.told files tells; of_file = read.told files tells }

  -- what tells of no file that could not be read, but where the folder's count of faults rose
  unread_answer : (error : AnswerError) → IsAnswerCaused dir old new error → IsOfCommand (outcome.NoAnswer error) (Rose old.faults new.faults)
  unread_answer answer_error.CannotRead caused = record { not_usage = λ two. omega (arith, two); unread = λ five. caused.0 }
  unread_answer answer_error.TooLong caused =
      read_status (outcome.NoAnswer answer_error.TooLong) (λ two. omega (arith, two)) (λ five. omega (arith, five))
  unread_answer (answer_error.Refused refusal) caused =
      read_status (outcome.NoAnswer (answer_error.Refused refusal)) (λ two. omega (arith, two)) (λ five. omega (arith, five))

  unanswered_status : IsUnanswered dir old new it → IsOfCommand it (Rose old.faults new.faults)
  unanswered_status (NoDay unread) = of_command unread.is (error_status dir old new unread.error unread.of_tables.caused)
  unanswered_status (NoneRead day read error wrong is) = of_command is (unread_answer error wrong.caused)
  unanswered_status (NoMemoryToRead none) = memory_status none

-- what a check finds has status 0 or 1
checked_status : {DidRise : Type 0} (it : Outcome) (answer : Answer) (verdict : AnswerVerdict) → it ≡ outcome.Checked answer.head verdict → IsOfCommand it DidRise
checked_status it answer verdict is =
    let low = verdict_status verdict in
    of_command is (read_status (outcome.Checked answer.head verdict) (λ two. omega (arith, low, two)) (λ five. omega (arith, low, five)))

-- ---- a check

module _ (files : Files) (dir : List ℕ) (before after : Option (List ℕ)) where
  abbrev Ends : ℕ → Type 0
  Ends status = EndsCheck files dir status before after

  module _ (day : Day) (answer : Answer) (accepted : AreAnswered files dir day answer) (verdict : AnswerVerdict) (on : IsVerdictOn day answer verdict)
      (appended : Appends (check_line answer.head verdict) before after) where
    checked_valid : verdict ≡ Valid → IsValid day answer → Ends 0
    checked_valid is valid = record {
      valid = (λ e. (day, answer, accepted, valid), λ said. refl);
      holds = λ e. (day, answer, accepted, on.holds is);
      invalid = (λ e. absurd (omega (arith, e)), λ said. absurd (said.3 (answered_once files dir day said.0 answer said.1 accepted said.2 valid)));
      refused = (λ e. absurd (omega (arith, e)), λ said. absurd (answered_right files dir day answer said.0 accepted said.1));
      told = λ e. absurd (omega (arith, e));
      verdict = λ e. (day, answer, accepted, verdict, on.is, appended);
    }

    checked_invalid : ¬ (IsValid day answer) → Ends 1
    checked_invalid wrong = record {
      valid = (λ e. absurd (omega (arith, e)), λ said. absurd (wrong (answered_once files dir said.0 day said.1 answer said.2 accepted said.3)));
      holds = λ e. absurd (omega (arith, e));
      invalid = (λ e. (day, answer, accepted, wrong), λ said. refl);
      refused = (λ e. absurd (omega (arith, e)), λ said. absurd (answered_right files dir day answer said.0 accepted said.1));
      told = λ e. absurd (omega (arith, e));
      verdict = λ e. (day, answer, accepted, verdict, on.is, appended);
    }

    by_verdict : Ends (status_of_verdict verdict)
    by_verdict = elim (valid_or_not day answer verdict on.is) [
      | inl both ↦ subst Ends (sym (ap status_of_verdict both.0)) (checked_valid both.0 both.1)
      | inr both ↦ subst Ends (sym (wrong_status verdict both.0)) (checked_invalid both.1)
    ]

  checked_refused : (line : List ℕ) → TellsRefusal files dir line → Appends line before after → Ends 3
  checked_refused line wrong appended = record {
    valid = (λ e. absurd (omega (arith, e)), λ said. absurd (answered_right files dir said.0 said.1 line said.2 wrong));
    holds = λ e. absurd (omega (arith, e));
    invalid = (λ e. absurd (omega (arith, e)), λ said. absurd (answered_right files dir said.0 said.1 line said.2 wrong));
    refused = (λ e. (line, wrong), λ said. refl);
    told = λ e. (line, wrong, appended);
    verdict = λ e. absurd (e refl);
  }

  by_check : (day : Day) (answer : Answer) → AreAnswered files dir day answer → (it : Outcome) → IsCheckOutcome day answer it → IsWritten it before after
      → Ends (status_of it)
  by_check day answer accepted it (IsJudged verdict on is) written =
      let own : IsWritten (outcome.Checked answer.head verdict) before after = written_as is written in
      with_status Ends is
      (by_verdict day answer accepted verdict on (appends_line (check_line answer.head verdict) own own.document))
  by_check day answer accepted it (NoMemoryToCheck none) written = absurd (not_memory none written)

check_status : (day : Day) (answer : Answer) (it : Outcome) (DidRise : Type 0) → IsCheckOutcome day answer it → IsOfCommand it DidRise
check_status day answer it DidRise (IsJudged verdict on is) = checked_status it answer verdict is
check_status day answer it DidRise (NoMemoryToCheck none) = memory_status none

module _ (dir : List ℕ) (old new : FolderState) (it : Outcome) where
  pub checking_ends : IsAnswerChecked dir old new it → (files : Files) → old.holds ≡ Some files
      → (before after : Option (List ℕ)) → IsWritten it before after → EndsCheck files dir (status_of it) before after
  checking_ends (NoAnswer none) files tells before after written =
      let told = refused_files dir old new it files tells before after written none in
      subst (λ (n : ℕ). EndsCheck files dir n before after) (sym told.status) (checked_refused files dir before after told.line told.refused told.appended)
  checking_ends (OfAnswer day answer read comes) files tells before after written =
      by_check files dir before after day answer (accepted_by dir old new it files tells day answer read) it comes written

  pub checking_status : IsAnswerChecked dir old new it → IsOfCommand it (Rose old.faults new.faults)
  checking_status (NoAnswer none) = unanswered_status dir old new it none
  checking_status (OfAnswer day answer read comes) = check_status day answer it (Rose old.faults new.faults) comes

-- ---- a report

module _ (files : Files) (dir : List ℕ) (kind : ReportKind) (before after : Option (List ℕ)) where
  abbrev EndsSo : ℕ → Type 0
  EndsSo status = EndsReport files dir kind status before after

  true_or_false : (b : Bool) → IsTrue b → b ≡ false → ⊥
  true_or_false b is none = cc

  ends_reported : (day : Day) (answer : Answer) → AreAnswered files dir day answer → IsValid day answer
      → IsTrue (has_plan answer.head) → Appends (report_text kind day answer.runs) before after → EndsSo 0
  ends_reported day answer accepted valid planned appended = record {
    reported = (λ e. (day, answer, accepted, valid, planned), λ said. refl);
    written = λ e. (day, answer, accepted, appended);
    none = (λ e. absurd (omega (arith, e)), λ said. absurd (either said.0 said.1 said.2 said.3));
    why = λ e. absurd (omega (arith, e));
    refused = (λ e. absurd (omega (arith, e)), λ said. absurd (answered_right files dir day answer said.0 accepted said.1));
    told = λ e. absurd (omega (arith, e));
  }
    where
      either : (other : Day) (another : Answer) → AreAnswered files dir other another
          → (¬ IsValid other another) ⊎ (has_plan another.head ≡ false) → ⊥
      either other another is (inl wrong) = wrong (answered_once files dir day other answer another accepted is valid)
      either other another is (inr none) =
          true_or_false (has_plan answer.head) planned (one_plan files dir day other answer another accepted is ∙ none)

  ends_without : (day : Day) (answer : Answer) → AreAnswered files dir day answer
      → ((¬ IsValid day answer) ⊎ (has_plan answer.head ≡ false)) → (line : List ℕ) → IsNotReported day answer line
      → Appends line before after → EndsSo 1
  ends_without day answer accepted because line told appended = record {
    reported = (λ e. absurd (omega (arith, e)), λ said. absurd (refute because said.0 said.1 said.2 said.3 said.4));
    written = λ e. absurd (omega (arith, e));
    none = (λ e. (day, answer, accepted, because), λ said. refl);
    why = λ e. (day, answer, accepted, line, told, appended);
    refused = (λ e. absurd (omega (arith, e)), λ said. absurd (answered_right files dir day answer said.0 accepted said.1));
    told = λ e. absurd (omega (arith, e));
  }
    where
      refute : (¬ IsValid day answer) ⊎ (has_plan answer.head ≡ false) → (other : Day) (another : Answer)
          → AreAnswered files dir other another → IsValid other another → IsTrue (has_plan another.head) → ⊥
      refute (inl wrong) other another is valid planned = wrong (answered_once files dir other day another answer is accepted valid)
      refute (inr none) other another is valid planned =
          true_or_false (has_plan another.head) planned (one_plan files dir other day another answer is accepted ∙ none)

  ends_refused : (line : List ℕ) → TellsRefusal files dir line → Appends line before after → EndsSo 3
  ends_refused line wrong appended = record {
    reported = (λ e. absurd (omega (arith, e)), λ said. absurd (answered_right files dir said.0 said.1 line said.2 wrong));
    written = λ e. absurd (omega (arith, e));
    none = (λ e. absurd (omega (arith, e)), λ said. absurd (answered_right files dir said.0 said.1 line said.2 wrong));
    why = λ e. absurd (omega (arith, e));
    refused = (λ e. (line, wrong), λ said. refl);
    told = λ e. (line, wrong, appended);
  }

  not_valid : (day : Day) (answer : Answer) (verdict : AnswerVerdict) → IsVerdictOn day answer verdict → verdict ≢ Valid → ¬ IsValid day answer
  not_valid day answer verdict on wrong = elim (valid_or_not day answer verdict on.is) [
    | inl both ↦ absurd (wrong both.0)
    | inr both ↦ both.1
  ]

  by_report : (day : Day) (answer : Answer) → AreAnswered files dir day answer → (it : Outcome) → IsReportOutcome kind day answer it
      → IsWritten it before after → EndsSo (status_of it)
  by_report day answer accepted it (IsWrong verdict on wrong is) written =
      let own : IsWritten (outcome.Checked answer.head verdict) before after = written_as is written in
      let not : ¬ IsValid day answer = not_valid day answer verdict on wrong in
      with_status EndsSo is (subst EndsSo (sym (wrong_status verdict wrong))
      (ends_without day answer accepted (inl not) (check_line answer.head verdict) (NotValid verdict on.is not refl)
      (appends_line (check_line answer.head verdict) own own.document)))
  by_report day answer accepted it (IsReported text of is) written =
      let own : IsWritten (outcome.Reported text) before after = written_as is written in
      with_status EndsSo is (ends_reported day answer accepted of.valid of.planned
      (appends_line (report_text kind day answer.runs) own (own.document ∙ of.is)))
  by_report day answer accepted it (HasNoPlan valid none is) written =
      let own : IsWritten outcome.NoPlan before after = written_as is written in
      with_status EndsSo is (ends_without day answer accepted (inr none) no_plan_line (WithoutPlan valid none refl)
      (appends_line no_plan_line own own.document))
  by_report day answer accepted it (NoMemoryToReport none) written = absurd (not_memory none written)

report_status : (kind : ReportKind) (day : Day) (answer : Answer) (it : Outcome) (DidRise : Type 0) → IsReportOutcome kind day answer it → IsOfCommand it DidRise
report_status kind day answer it DidRise (IsWrong verdict on wrong is) = checked_status it answer verdict is
report_status kind day answer it DidRise (IsReported text of is) =
    of_command is (read_status (outcome.Reported text) (λ two. omega (arith, two)) (λ five. omega (arith, five)))
report_status kind day answer it DidRise (HasNoPlan valid none is) =
    of_command is (read_status outcome.NoPlan (λ two. omega (arith, two)) (λ five. omega (arith, five)))
report_status kind day answer it DidRise (NoMemoryToReport none) = memory_status none

module _ (dir : List ℕ) (kind : ReportKind) (old new : FolderState) (it : Outcome) where
  pub reporting_ends : IsAnswerReported dir kind old new it → (files : Files) → old.holds ≡ Some files
      → (before after : Option (List ℕ)) → IsWritten it before after → EndsReport files dir kind (status_of it) before after
  reporting_ends (NoAnswer none) files tells before after written =
      let told = refused_files dir old new it files tells before after written none in
      subst (λ (n : ℕ). EndsReport files dir kind n before after) (sym told.status)
      (ends_refused files dir kind before after told.line told.refused told.appended)
  reporting_ends (OfAnswer day answer read comes) files tells before after written =
      by_report files dir kind before after day answer (accepted_by dir old new it files tells day answer read) it comes written

  pub reporting_status : IsAnswerReported dir kind old new it → IsOfCommand it (Rose old.faults new.faults)
  reporting_status (NoAnswer none) = unanswered_status dir old new it none
  reporting_status (OfAnswer day answer read comes) = report_status kind day answer it (Rose old.faults new.faults) comes
