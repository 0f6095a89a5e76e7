-- How the planning of a day and of a trial day ends.
use Rattle.std.proofs.Common.{◌≡◌, ℕ, List, Option, Some, Ok, Err, refl, arith}
use Rattle.rail_io.specs.Folders.{Files, FolderState, Rose}
use Rattle.timetable.specs.Day.{Day}
use Rattle.day_files.specs.declared.errors.ReadError.{ReadError}
use Rattle.day_files.specs.declared.errors.ReadError.TheVariants as read_error
use Rattle.day_files.specs.Answers.{Reads}
use Rattle.day_files.specs.Inputs.{day_in}
use Rattle.day_files.specs.Order.{Reaches}
use Rattle.answer_text.specs.Texts.{text_of}
use Rattle.run_documents.specs.declared.outcome.Outcome.{Outcome}
use Rattle.run_documents.specs.declared.outcome.Outcome.TheVariants.{Planned, Tried}
use Rattle.run_documents.specs.Errors.{outcome_of_error}
use Rattle.run_documents.specs.Lines.{refused_line}
use Rattle.run_documents.specs.Planning.{EndsPlanning}
use Rattle.run_documents.specs.TrialTexts.{trial_text}
use Rattle.planner_app.specs.DayOutcomes.{IsPlanOutcome, IsTrialOutcome, IsPlanned, NoMemoryToPlan, IsTried, NoMemoryToTry}
use Rattle.planner_app.specs.Outcomes.{IsDayPlanned, NoDay, OfDay}
use Rattle.planner_app.specs.Statuses.{EndsTrial, status_of}
use Rattle.planner_app.proofs.Simulating.{error_status, memory_status}
use Rattle.planner_app.proofs.Statuses.{head_status}
use Rattle.planner_app.proofs.Written.{IsOfCommand, IsWritten, appends_line, not_memory, of_command, read_status, with_status, written_as}

module _ (files : Files) (dir : List ℕ) (nodes : ℕ) (before after : Option (List ℕ)) where
  abbrev Ends : ℕ → Type 0
  Ends status = EndsPlanning refused_line files dir nodes status before after

  -- a refused table ends it
  by_error : (error : ReadError) → Reads {Y = Day} (Reaches files dir) (Err error) (day_in files dir)
      → IsWritten (outcome_of_error error) before after → Ends (status_of (outcome_of_error error))
  by_error (read_error.Refused why) said written = record {
    refused = (λ three. (why, said), λ other. refl);
    told = λ three. (why, said, appends_line (refused_line why) written written.document);
    answered = λ other. absurd (other refl);
  }
  by_error (read_error.CannotRead read) said written = absurd (written.undisturbed.0 refl)
  by_error read_error.NoMemory said written = absurd (written.undisturbed.2 refl)

  -- and so does an answer
  by_answer : (day : Day) → day_in files dir ≡ Ok day → (it : Outcome) → IsPlanOutcome day nodes it → IsWritten it before after → Ends (status_of it)
  by_answer day accepted it (IsPlanned answer headline is) written =
      let head = head_status answer.head in
      let own : IsWritten (Planned answer) before after = written_as is written in
      with_status Ends is (record {
        refused = (λ three. absurd (head.not_refused three), λ said. absurd (let other = said.1 in cc));
        told = λ three. absurd (head.not_refused three);
        answered = λ _. (
          day,
          accepted,
          record {
            answer = answer;
            headline = headline;
            status_fits = refl;
            written = appends_line (text_of answer) own own.document;
          },
        );
      })
  by_answer day accepted it (NoMemoryToPlan none) written = absurd (not_memory none written)

plan_status : (day : Day) (nodes : ℕ) (it : Outcome) (DidRise : Type 0) → IsPlanOutcome day nodes it → IsOfCommand it DidRise
plan_status day nodes it DidRise (IsPlanned answer headline is) =
    let head = head_status answer.head in
    of_command is (read_status (Planned answer) head.not_usage (λ five. omega (arith, head.low, five)))
plan_status day nodes it DidRise (NoMemoryToPlan none) = memory_status none

module _ (dir : List ℕ) (nodes : ℕ) (old new : FolderState) (it : Outcome) where
  pub planning_ends : IsDayPlanned dir nodes old new it → (files : Files) → old.holds ≡ Some files → (before after : Option (List ℕ))
      → IsWritten it before after → EndsPlanning refused_line files dir nodes (status_of it) before after
  planning_ends (NoDay unread) files tells before after written =
      with_status (λ status. EndsPlanning refused_line files dir nodes status before after) unread.is
      (by_error files dir nodes before after unread.error (unread.of_tables.told files tells) (written_as unread.is written))
  planning_ends (OfDay day read comes) files tells before after written = by_answer files dir nodes before after day (read.told files tells) it comes written

  pub planning_status : IsDayPlanned dir nodes old new it → IsOfCommand it (Rose old.faults new.faults)
  planning_status (NoDay unread) = of_command unread.is (error_status dir old new unread.error unread.of_tables.caused)
  planning_status (OfDay day read comes) = plan_status day nodes it (Rose old.faults new.faults) comes

-- ---- a trial day

module _ (seed trips nodes : ℕ) (it : Outcome) where
  pub trial_ends : IsTrialOutcome seed trips nodes it → (before after : Option (List ℕ)) → IsWritten it before after
      → EndsTrial seed trips nodes (status_of it) before after
  trial_ends (IsTried day made answer headline is) before after written =
      let own : IsWritten (Tried seed trips answer) before after = written_as is written in
      with_status (λ status. EndsTrial seed trips nodes status before after) is (record {
        day = day;
        made = made;
        answered = record {
          answer = answer;
          headline = headline;
          status_fits = refl;
          written = appends_line (trial_text seed trips answer) own own.document;
        };
      })
  trial_ends (NoMemoryToTry none) before after written = absurd (not_memory none written)

  pub trial_status : (DidRise : Type 0) → IsTrialOutcome seed trips nodes it → IsOfCommand it DidRise
  trial_status DidRise (IsTried day made answer headline is) =
      let head = head_status answer.head in
      of_command is (read_status (Tried seed trips answer) head.not_usage (λ five. omega (arith, head.low, five)))
  trial_status DidRise (NoMemoryToTry none) = memory_status none
