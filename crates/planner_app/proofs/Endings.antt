-- How a run ends, by what it came to and what was written of it.
use Rattle.std.proofs.Common.{◌≡◌, ◌≢◌, ◌≤◌, ℕ, Bool, true, List, Option, Some, ap, sym, ◌∙◌, subst, arith}
use Rattle.rail_io.specs.Folders.{CountsFault, Files, FolderState, Rose}
use Rattle.rail_io.specs.Sinks.{Appends}
use Rattle.statuses.specs.Endings.{EndsInUsage, LeavesSink}
use Rattle.statuses.specs.Written.{CountsFailedReads, CountsFailedWrites, IsStatus, IsUndisturbed}
use Rattle.statuses.proofs.Endings as ends
use Rattle.run_documents.specs.Lines.{refused_line, usage_text}
use Rattle.run_documents.specs.Planning.{EndsPlanning}
use Rattle.run_documents.specs.Texts.{IsDocument}
use Rattle.run_documents.specs.declared.outcome.Outcome.{Outcome}
use Rattle.commands.specs.declared.command.Command.{Command}
use Rattle.commands.specs.declared.command.Command.TheVariants as command
use Rattle.commands.specs.PlainForm.{IsPlainForm}
use Rattle.planner_app.specs.declared.reports.ReportKind.{ReportKind}
use Rattle.planner_app.specs.declared.reports.ReportKind.TheVariants as report
use Rattle.planner_app.specs.Asked.{AskInVain, AskToCheck, AskToPlan, AskToReport, AskToSimulate, AskToTry, command_for}
use Rattle.planner_app.specs.Outcomes.{ComesTo, IsAnswerReported, IsOutcome, OfCommand, InVain, Unread}
use Rattle.planner_app.specs.PlannerEndings.{EndsByCommand}
use Rattle.planner_app.specs.Statuses.{EndsCheck, EndsReport, EndsSimulation, EndsTrial, WroteOutcome, is_unread, status_of}
use Rattle.planner_app.proofs.Answering.{planning_ends, planning_status, trial_ends, trial_status}
use Rattle.planner_app.proofs.Asking.{one_command}
use Rattle.planner_app.proofs.Judging.{checking_ends, checking_status, reporting_ends, reporting_status}
use Rattle.planner_app.proofs.Simulating.{simulation_ends, simulation_status}
use Rattle.planner_app.proofs.Statuses.{few_with_document, unread_is_five}
use Rattle.planner_app.proofs.Written.{IsOfCommand, IsWritten, not_memory}

module _ (words : List (List ℕ)) (old new : FolderState) (outcome : Outcome) (status : ℕ) (before after : Option (List ℕ)) (faults faults' : ℕ)
    (is : IsOutcome words old new outcome) (wrote : WroteOutcome outcome status before after faults faults') where
  abbrev Comes : Command → Type 0
  Comes named = ComesTo named old new outcome

  -- a report on the answer of a folder
  reported : (kind : ReportKind) (dir : List ℕ) → Comes (command_for kind dir) → IsAnswerReported dir kind old new outcome
  reported report.Duties dir comes = comes
  reported report.Yards dir comes = comes
  reported report.Costs dir comes = comes

  -- what a command has no status for, and what its status tells
  status_fits : (named : Command) → Comes named → IsOfCommand outcome (Rose old.faults new.faults)
  status_fits (command.Plan dir nodes rounds) comes = planning_status dir nodes old new outcome comes
  status_fits (command.Simulate dir) comes = simulation_status dir old new outcome comes
  status_fits (command.Check dir) comes = checking_status dir old new outcome comes
  status_fits (command.Duties dir) comes = reporting_status dir report.Duties old new outcome comes
  status_fits (command.Yards dir) comes = reporting_status dir report.Yards old new outcome comes
  status_fits (command.Costs dir) comes = reporting_status dir report.Costs old new outcome comes
  status_fits (command.Trial seed trips nodes rounds) comes = trial_status seed trips nodes outcome (Rose old.faults new.faults) comes

  -- ---- where no call failed, and memory was enough

  -- what the words ask for came of their command
  of_words : (named : Command) → IsPlainForm words named → IsWritten outcome before after → Comes named
  of_words named asked written = by is
    where
      by : IsOutcome words old new outcome → Comes named
      by (OfCommand other asked' comes) = subst (λ (it : Command). Comes it) (one_command words other named asked' asked) comes
      by (InVain vain usage) = absurd (vain named asked)
      by (Unread none) = absurd (not_memory none written)

  -- how a command ends by its outcome is how the run ends
  ends_as : (Ends : ℕ → Type 0) (named : Command) → IsPlainForm words named → IsUndisturbed status
      → (Comes named → IsWritten outcome before after → Ends (status_of outcome)) → Ends status
  ends_as Ends named asked undisturbed ending =
      let whole = ends.whole (IsDocument outcome) (status_of outcome) status before after faults faults' wrote undisturbed in
      let written : IsWritten outcome before after =
      record { text = whole.0; document = whole.1; appended = whole.2; undisturbed = subst IsUndisturbed whole.3 undisturbed } in
      subst Ends (sym whole.3) (ending (of_words named asked written) written)

  ends_planning : (files : Files) (dir : List ℕ) (nodes rounds : ℕ) → old.holds ≡ Some files → AskToPlan words dir nodes rounds → IsUndisturbed status
      → EndsPlanning refused_line files dir nodes status before after
  ends_planning files dir nodes rounds tells asked undisturbed =
      ends_as (λ n. EndsPlanning refused_line files dir nodes n before after) (command.Plan dir nodes rounds) asked undisturbed
      (λ comes written. planning_ends dir nodes old new outcome comes files tells before after written)

  ends_simulation : (files : Files) (dir : List ℕ) → old.holds ≡ Some files → AskToSimulate words dir → IsUndisturbed status
      → EndsSimulation files dir status before after
  ends_simulation files dir tells asked undisturbed =
      ends_as (λ n. EndsSimulation files dir n before after) (command.Simulate dir) asked undisturbed
      (λ comes written. simulation_ends dir old new outcome comes files tells before after written)

  ends_check : (files : Files) (dir : List ℕ) → old.holds ≡ Some files → AskToCheck words dir → IsUndisturbed status
      → EndsCheck files dir status before after
  ends_check files dir tells asked undisturbed =
      ends_as (λ n. EndsCheck files dir n before after) (command.Check dir) asked undisturbed
      (λ comes written. checking_ends dir old new outcome comes files tells before after written)

  ends_report : (files : Files) (dir : List ℕ) (kind : ReportKind) → old.holds ≡ Some files → AskToReport words kind dir → IsUndisturbed status
      → EndsReport files dir kind status before after
  ends_report files dir kind tells asked undisturbed =
      ends_as (λ n. EndsReport files dir kind n before after) (command_for kind dir) asked undisturbed
      (λ comes written. reporting_ends dir kind old new outcome (reported kind dir comes) files tells before after written)

  ends_trial : (seed trips nodes rounds : ℕ) → AskToTry words seed trips nodes rounds → IsUndisturbed status
      → EndsTrial seed trips nodes status before after
  ends_trial seed trips nodes rounds asked undisturbed =
      ends_as (λ n. EndsTrial seed trips nodes n before after) (command.Trial seed trips nodes rounds) asked undisturbed
      (λ comes written. trial_ends seed trips nodes outcome comes before after written)

  ends_in_usage : IsUndisturbed status → EndsInUsage (AskInVain words) usage_text status before after
  ends_in_usage undisturbed = by is
    where
      own : (text : List ℕ) × IsDocument outcome text × Appends text before after × (status ≡ status_of outcome)
      own = ends.whole (IsDocument outcome) (status_of outcome) status before after faults faults' wrote undisturbed

      by : IsOutcome words old new outcome → EndsInUsage (AskInVain words) usage_text status before after
      by (OfCommand named asked comes) =
          let other : status ≢ 2 = λ two. (status_fits named comes).not_usage (sym own.3 ∙ two) in
          record { told = (λ two. absurd (other two), λ vain. absurd (vain named asked)); written = λ two. absurd (other two) }
      by (InVain vain usage) =
          let line : own.0 ≡ usage_text = subst (λ (it : Outcome). IsDocument it own.0) usage own.1 in
          record {
            told = (λ two. vain, λ _. own.3 ∙ ap status_of usage);
            written = λ two. subst (λ (t : List ℕ). Appends t before after) line own.2;
          }
      by (Unread none) = absurd (undisturbed.2 (own.3 ∙ ap status_of none))

  pub ends_by_command : IsUndisturbed status → EndsByCommand old.holds words status before after
  ends_by_command undisturbed = record {
    plan = λ files dir nodes rounds tells asked. ends_planning files dir nodes rounds tells asked undisturbed;
    simulate = λ files dir tells asked. ends_simulation files dir tells asked undisturbed;
    check = λ files dir tells asked. ends_check files dir tells asked undisturbed;
    report = λ files dir kind tells asked. ends_report files dir kind tells asked undisturbed;
    trial = λ seed trips nodes rounds asked. ends_trial seed trips nodes rounds asked undisturbed;
    usage = ends_in_usage undisturbed;
  }

  -- ---- whatever the status is

  low : (text : List ℕ) → IsDocument outcome text → status_of outcome ≤ 5
  low text document = few_with_document outcome text document

  pub is_status : IsStatus status
  is_status = ends.is_status (IsDocument outcome) (status_of outcome) status before after faults faults' wrote low

  pub leaves_sink : (counts_failed : Bool) → (counts_failed ≡ true → CountsFailedWrites status faults faults') → faults ≤ faults'
      → LeavesSink counts_failed status before after faults faults'
  leaves_sink counts_failed counts lasting =
      ends.leaves_sink (IsDocument outcome) (status_of outcome) status before after faults faults' wrote low counts_failed counts lasting

  rose_of : status_of outcome ≡ 5 → Rose old.faults new.faults
  rose_of five = by is
    where
      by : IsOutcome words old new outcome → Rose old.faults new.faults
      by (OfCommand named asked comes) = (status_fits named comes).unread five
      by (InVain vain usage) = absurd (omega (arith, five, ap status_of usage))
      by (Unread none) = absurd (omega (arith, five, ap status_of none))

  pub unread : status ≡ 5 → Rose old.faults new.faults
  unread five = rose_of (ends.own_five (IsDocument outcome) (status_of outcome) status before after faults faults' wrote five)

  pub failed_reads : CountsFault (is_unread outcome) old new → old.counts_failed ≡ true → CountsFailedReads status old.faults new.faults
  failed_reads counts counting =
      ends.counts_reads (IsDocument outcome) (status_of outcome) status before after faults faults' wrote
      (is_unread outcome) old.faults new.faults (unread_is_five outcome) (counts counting)
