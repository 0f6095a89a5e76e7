-- How a run ends, by what it came to and what was written of it.
use Rattle.std.proofs.Common.{◌≡◌, ◌≢◌, ◌≤◌, inl, inr, ℕ, Bool, true, false, List, Option, Some, ap, sym, ◌∙◌, subst, arith}
use Rattle.rail_io.specs.Folders.{CountsFault, Files, FolderState, Rose, faults_after}
use Rattle.rail_io.specs.Sinks.{Appends}
use Rattle.statuses.specs.Endings.{EndsInUsage, LeavesSink}
use Rattle.statuses.specs.Written.{CountsFailedReads, CountsFailedWrites, IsStatus, IsUndisturbed, Whole, Part, Nothing}
use Rattle.run_documents.specs.Planning.{EndsPlanning}
use Rattle.desk_commands.specs.declared.command.Command.{Command}
use Rattle.desk_commands.specs.declared.command.Command.TheVariants as command
use Rattle.desk_commands.specs.declared.fleet_planning.FleetPlanning.{FleetPlanning}
use Rattle.desk_commands.specs.declared.planning.Planning.{Planning}
use Rattle.desk_commands.specs.declared.replanning.Replanning.{Replanning}
use Rattle.desk_commands.specs.declared.swapping.Swapping.{Swapping}
use Rattle.desk_commands.specs.declared.week_planning.WeekPlanning.{WeekPlanning}
use Rattle.desk_commands.specs.PlainForm.{IsPlainForm}
use Rattle.desk_commands.proofs.OneCommand.{one_command}
use Rattle.desk_app.specs.declared.outcome.DeskOutcome.{DeskOutcome}
use Rattle.desk_app.specs.declared.outcome.DeskOutcome.TheVariants.{NoMemory}
use Rattle.desk_app.specs.Documents.{IsDocument, table_refused_line, usage_line}
use Rattle.desk_app.specs.Outcomes.{AskForFleet, AskForWeek, AskInVain, AskToPlan, AskToReplan, AskToSwap, ComesTo}
use Rattle.desk_app.specs.Outcomes.{IsOutcome, OfCommand, InVain, Unread, status_of, is_unread}
use Rattle.desk_app.specs.Statuses.{WroteOutcome}
use Rattle.desk_app.specs.DeskEndings.{EndsByCommand}
use Rattle.desk_app.specs.FleetEndings.{EndsFleet}
use Rattle.desk_app.specs.ReplanEndings.{EndsReplanning}
use Rattle.desk_app.specs.SwapEndings.{EndsSwapping}
use Rattle.desk_app.specs.WeekEndings.{EndsWeek}
use Rattle.desk_app.proofs.Statuses.{IsToldByFive, few_with_document, unread_is_five}
use Rattle.desk_app.proofs.PlannedDays.{IsOfCommand, plan_status, planning_ends}
use Rattle.desk_app.proofs.ReplannedRests.{replan_status, replanning_ends}
use Rattle.desk_app.proofs.SwappedUnits.{swap_status, swapping_ends}
use Rattle.desk_app.proofs.PlannedWeeks.{week_ends, week_status}
use Rattle.desk_app.proofs.FoundFleets.{fleet_ends, fleet_status}

-- want of memory has no document
no_document : (outcome : DeskOutcome) (text : List ℕ) → outcome ≡ NoMemory → IsDocument outcome text → ⊥
no_document outcome text is document = subst (λ (it : DeskOutcome). IsDocument it text) is document

module _ (words : List (List ℕ)) (before after : FolderState)
    (outcome : DeskOutcome) (status : ℕ) (written written' : Option (List ℕ)) (faults faults' : ℕ)
    (is : IsOutcome words before after outcome) (wrote : WroteOutcome outcome status written written' faults faults') where
  abbrev Wrote' : Type 0
  Wrote' = WroteOutcome outcome status written written' faults faults'

  abbrev Comes : Command → Type 0
  Comes named = ComesTo named before after outcome

  -- what a command has no status for, and what its status tells
  status_fits : (named : Command) → Comes named → IsOfCommand outcome (Rose before.faults after.faults)
  status_fits (command.Plan planning) comes = plan_status planning before after outcome comes
  status_fits (command.Urgent swapping) comes = swap_status swapping.dir before after outcome comes
  status_fits (command.Replan replanning) comes = replan_status replanning before after outcome comes
  status_fits (command.Week planning) comes = week_status planning before after outcome comes
  status_fits (command.Fleet planning) comes = fleet_status planning before after outcome comes

  -- the outcome of words that ask for a command
  of_command : (named : Command) → IsPlainForm words named → (outcome ≡ NoMemory → ⊥) → Comes named
  of_command named asked made = by is
    where
      by : IsOutcome words before after outcome → Comes named
      by (OfCommand other asked' comes) = subst (λ (it : Command). Comes it) (one_command words other named asked' asked) comes
      by (InVain vain usage) = absurd (vain named asked)
      by (Unread none) = absurd (made none)

  ends_planning : (files : Files) (planning : Planning) → before.holds ≡ Some files → AskToPlan words planning → IsUndisturbed status
      → EndsPlanning table_refused_line files planning.dir planning.nodes status written written'
  ends_planning files planning tells asked undisturbed = by wrote
    where
      by : Wrote' → EndsPlanning table_refused_line files planning.dir planning.nodes status written written'
      by (Whole text document appends e) =
          subst (λ (n : ℕ). EndsPlanning table_refused_line files planning.dir planning.nodes n written written') (sym e)
          (planning_ends planning before after outcome
          (of_command (command.Plan planning) asked (λ none. no_document outcome text none document)) files tells text document
          written written' appends (subst IsUndisturbed e undisturbed))
      by (Part text document appends rose six) = absurd (undisturbed.1 six)
      by (Nothing kept seven) = absurd (undisturbed.2 seven)

  ends_swapping : (files : Files) (swapping : Swapping) → before.holds ≡ Some files → AskToSwap words swapping → IsUndisturbed status
      → EndsSwapping files swapping.dir status written written'
  ends_swapping files swapping tells asked undisturbed = by wrote
    where
      by : Wrote' → EndsSwapping files swapping.dir status written written'
      by (Whole text document appends e) =
          subst (λ (n : ℕ). EndsSwapping files swapping.dir n written written') (sym e)
          (swapping_ends swapping.dir before after outcome
          (of_command (command.Urgent swapping) asked (λ none. no_document outcome text none document)) files tells text document
          written written' appends (subst IsUndisturbed e undisturbed))
      by (Part text document appends rose six) = absurd (undisturbed.1 six)
      by (Nothing kept seven) = absurd (undisturbed.2 seven)

  ends_replanning : (files : Files) (replanning : Replanning) → before.holds ≡ Some files → AskToReplan words replanning → IsUndisturbed status
      → EndsReplanning files replanning status written written'
  ends_replanning files replanning tells asked undisturbed = by wrote
    where
      by : Wrote' → EndsReplanning files replanning status written written'
      by (Whole text document appends e) =
          subst (λ (n : ℕ). EndsReplanning files replanning n written written') (sym e)
          (replanning_ends replanning before after outcome
          (of_command (command.Replan replanning) asked (λ none. no_document outcome text none document)) files tells text document
          written written' appends (subst IsUndisturbed e undisturbed))
      by (Part text document appends rose six) = absurd (undisturbed.1 six)
      by (Nothing kept seven) = absurd (undisturbed.2 seven)

  ends_week : (files : Files) (planning : WeekPlanning) → before.holds ≡ Some files → AskForWeek words planning → IsUndisturbed status
      → EndsWeek files planning status written written'
  ends_week files planning tells asked undisturbed = by wrote
    where
      by : Wrote' → EndsWeek files planning status written written'
      by (Whole text document appends e) =
          subst (λ (n : ℕ). EndsWeek files planning n written written') (sym e)
          (week_ends planning before after outcome
          (of_command (command.Week planning) asked (λ none. no_document outcome text none document)) files tells text document
          written written' appends (subst IsUndisturbed e undisturbed))
      by (Part text document appends rose six) = absurd (undisturbed.1 six)
      by (Nothing kept seven) = absurd (undisturbed.2 seven)

  ends_fleet : (files : Files) (planning : FleetPlanning) → before.holds ≡ Some files → AskForFleet words planning → IsUndisturbed status
      → EndsFleet files planning status written written'
  ends_fleet files planning tells asked undisturbed = by wrote
    where
      by : Wrote' → EndsFleet files planning status written written'
      by (Whole text document appends e) =
          subst (λ (n : ℕ). EndsFleet files planning n written written') (sym e)
          (fleet_ends planning before after outcome
          (of_command (command.Fleet planning) asked (λ none. no_document outcome text none document)) files tells text document
          written written' appends (subst IsUndisturbed e undisturbed))
      by (Part text document appends rose six) = absurd (undisturbed.1 six)
      by (Nothing kept seven) = absurd (undisturbed.2 seven)

  ends_in_usage : IsUndisturbed status → EndsInUsage (AskInVain words) usage_line status written written'
  ends_in_usage undisturbed = by wrote
    where
      of : (text : List ℕ) → IsDocument outcome text → Appends text written written' → status ≡ status_of outcome
          → IsOutcome words before after outcome → EndsInUsage (AskInVain words) usage_line status written written'
      of text document appends e (OfCommand named asked comes) =
          let other : status ≢ 2 = λ two. (status_fits named comes).not_usage (sym e ∙ two) in
          record { told = (λ two. absurd (other two), λ vain. absurd (vain named asked)); written = λ two. absurd (other two) }
      of text document appends e (InVain vain usage) =
          let line : text ≡ usage_line = subst (λ (it : DeskOutcome). IsDocument it text) usage document in
          record {
            told = (λ two. vain, λ _. e ∙ ap status_of usage);
            written = λ two. subst (λ (t : List ℕ). Appends t written written') line appends;
          }
      of text document appends e (Unread none) = absurd (no_document outcome text none document)

      by : Wrote' → EndsInUsage (AskInVain words) usage_line status written written'
      by (Whole text document appends e) = of text document appends e is
      by (Part text document appends rose six) = absurd (undisturbed.1 six)
      by (Nothing kept seven) = absurd (undisturbed.2 seven)

  -- each command ends so
  pub ends_by_command : IsUndisturbed status → EndsByCommand before.holds words status written written'
  ends_by_command undisturbed = record {
    plan = λ files planning tells asked. ends_planning files planning tells asked undisturbed;
    urgent = λ files swapping tells asked. ends_swapping files swapping tells asked undisturbed;
    replan = λ files replanning tells asked. ends_replanning files replanning tells asked undisturbed;
    week = λ files planning tells asked. ends_week files planning tells asked undisturbed;
    fleet = λ files planning tells asked. ends_fleet files planning tells asked undisturbed;
    usage = ends_in_usage undisturbed;
  }

  pub is_status : IsStatus status
  is_status = by wrote
    where
      by : Wrote' → IsStatus status
      by (Whole text document appends e) = omega (arith, few_with_document outcome text document, e)
      by (Part text document appends rose six) = omega (arith, six)
      by (Nothing kept seven) = omega (arith, seven)

  -- ---- the folder

  rose_of : status_of outcome ≡ 5 → Rose before.faults after.faults
  rose_of five = by is
    where
      by : IsOutcome words before after outcome → Rose before.faults after.faults
      by (OfCommand named asked comes) = (status_fits named comes).unread five
      by (InVain vain usage) = absurd (omega (arith, five, ap status_of usage))
      by (Unread none) = absurd (omega (arith, five, ap status_of none))

  pub unread : status ≡ 5 → Rose before.faults after.faults
  unread five = by wrote
    where
      by : Wrote' → Rose before.faults after.faults
      by (Whole text document appends e) = rose_of (sym e ∙ five)
      by (Part text document appends rose six) = absurd (omega (arith, five, six))
      by (Nothing kept seven) = absurd (omega (arith, five, seven))

  counts_reads : after.faults ≡ faults_after (is_unread outcome) before.faults → CountsFailedReads status before.faults after.faults
  counts_reads counts = by (unread_is_five outcome) wrote
    where
      failed : is_unread outcome ≡ true → after.faults ≡ faults_after true before.faults
      failed unread = counts ∙ ap (λ (failed : Bool). faults_after failed before.faults) unread

      same : is_unread outcome ≡ false → after.faults ≡ before.faults
      same read = counts ∙ ap (λ (failed : Bool). faults_after failed before.faults) read

      by : IsToldByFive outcome → Wrote' → CountsFailedReads status before.faults after.faults
      by (inl (unread, five)) (Whole text d appends e) = record { failed = λ _. failed unread; undisturbed = λ undisturbed. absurd (undisturbed.0 (e ∙ five)); at_most_one = inr (failed unread) }
      by (inl (unread, five)) (Part text d appends rose six) = record { failed = λ _. failed unread; undisturbed = λ undisturbed. absurd (undisturbed.1 six); at_most_one = inr (failed unread) }
      by (inl (unread, five)) (Nothing kept seven) = record { failed = λ _. failed unread; undisturbed = λ undisturbed. absurd (undisturbed.2 seven); at_most_one = inr (failed unread) }
      by (inr (read, not_five, not_six)) (Whole text d appends e) = record { failed = λ five. absurd (not_five (sym e ∙ five)); undisturbed = λ _. same read; at_most_one = inl (same read) }
      by (inr (read, not_five, not_six)) (Part text d appends rose six) = record { failed = λ five. absurd (omega (arith, five, six)); undisturbed = λ _. same read; at_most_one = inl (same read) }
      by (inr (read, not_five, not_six)) (Nothing kept seven) = record { failed = λ five. absurd (omega (arith, five, seven)); undisturbed = λ _. same read; at_most_one = inl (same read) }

  pub failed_reads : CountsFault (is_unread outcome) before after → before.counts_failed ≡ true → CountsFailedReads status before.faults after.faults
  failed_reads counts counting = counts_reads (counts counting)

  -- ---- the sink

  pub leaves_sink : (counts_failed : Bool) → (counts_failed ≡ true → CountsFailedWrites status faults faults') → faults ≤ faults'
      → LeavesSink counts_failed status written written' faults faults'
  leaves_sink counts_failed counts lasting = record { unwritten = λ six. unwritten six wrote; nothing = λ seven. nothing seven wrote; failed_writes = counts; lasting = lasting }
    where
      unwritten : status ≡ 6 → Wrote' → Rose faults faults'
      unwritten six (Whole text document appends e) = absurd (omega (arith, few_with_document outcome text document, e, six))
      unwritten six (Part text document appends rose is_six) = rose
      unwritten six (Nothing kept seven) = absurd (omega (arith, six, seven))

      nothing : status ≡ 7 → Wrote' → written' ≡ written
      nothing seven (Whole text document appends e) = absurd (omega (arith, few_with_document outcome text document, e, seven))
      nothing seven (Part text document appends rose six) = absurd (omega (arith, six, seven))
      nothing seven (Nothing kept is_seven) = kept
