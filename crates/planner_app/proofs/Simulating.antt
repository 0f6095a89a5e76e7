-- How the run of a plan ends.
use Rattle.std.proofs.Common.{◌≡◌, ℕ, List, Option, Some, Ok, Err, refl, sym, subst, arith}
use Rattle.rail_base.specs.declared.numbers.Money.{Money}
use Rattle.rail_io.specs.Folders.{Files, FolderState, Rose}
use Rattle.rail_io.specs.Sinks.{Appends}
use Rattle.day_files.specs.declared.errors.Refusal.{Refusal}
use Rattle.day_files.specs.declared.errors.ReadError.{ReadError}
use Rattle.day_files.specs.declared.errors.ReadError.TheVariants as read_error
use Rattle.day_files.specs.declared.inputs.Inputs.{Inputs}
use Rattle.day_files.specs.Answers.{IsCaused, Reads}
use Rattle.day_files.specs.Inputs.{inputs_in}
use Rattle.day_files.specs.Order.{Reaches}
use Rattle.day_simulator.specs.declared.events.StepFault.{StepFault}
use Rattle.run_documents.specs.declared.outcome.Outcome.{Outcome}
use Rattle.run_documents.specs.declared.outcome.Outcome.TheVariants.{Runs, Stops, NoMemory}
use Rattle.run_documents.specs.Errors.{outcome_of_error}
use Rattle.run_documents.specs.Lines.{refused_line, runs_line, stops_line}
use Rattle.planner_app.specs.DayOutcomes.{IsRunOutcome, PlanRuns, RunsAt, StopsWith, DoesRun, DoesStop, NoMemoryToRun}
use Rattle.planner_app.specs.Outcomes.{IsPlanRun, NoInputs, OfInputs}
use Rattle.planner_app.specs.Statuses.{EndsSimulation, status_of}
use Rattle.planner_app.proofs.Written.{IsOfCommand, IsWritten, appends_line, not_memory, of_command, read_status, with_status, written_as}

module _ (files : Files) (dir : List ℕ) (before after : Option (List ℕ)) where
  abbrev Ends : ℕ → Type 0
  Ends status = EndsSimulation files dir status before after

  same_inputs : (one other : Inputs) → inputs_in files dir ≡ Ok one → inputs_in files dir ≡ Ok other → one ≡ other
  same_inputs one other first second = cc

  not_refused : (inputs : Inputs) → inputs_in files dir ≡ Ok inputs → ((why : Refusal) × (inputs_in files dir ≡ Err why)) → ⊥
  not_refused inputs accepted refused = let e = refused.1 in cc

  ran : (inputs : Inputs) → inputs_in files dir ≡ Ok inputs → (money : Money) → RunsAt inputs money → Appends (runs_line money) before after → Ends 0
  ran inputs accepted money at appended = record {
    runs = (λ e. (inputs, accepted, at.runs), λ said. refl);
    costs = λ e. (inputs, accepted, money, at, appended);
    stops = (λ e. absurd (omega (arith, e)), λ said. absurd (said.2 (subst PlanRuns (same_inputs inputs said.0 accepted said.1) at.runs)));
    fault = λ e. absurd (omega (arith, e));
    refused = (λ e. absurd (omega (arith, e)), λ said. absurd (not_refused inputs accepted said));
    told = λ e. absurd (omega (arith, e));
  }

  stopped : (inputs : Inputs) → inputs_in files dir ≡ Ok inputs → (fault : StepFault) → StopsWith inputs fault → Appends (stops_line fault) before after → Ends 1
  stopped inputs accepted fault at appended = record {
    runs = (λ e. absurd (omega (arith, e)), λ said. absurd (at.stops (subst PlanRuns (sym (same_inputs inputs said.0 accepted said.1)) said.2)));
    costs = λ e. absurd (omega (arith, e));
    stops = (λ e. (inputs, accepted, at.stops), λ said. refl);
    fault = λ e. (inputs, accepted, fault, at, appended);
    refused = (λ e. absurd (omega (arith, e)), λ said. absurd (not_refused inputs accepted said));
    told = λ e. absurd (omega (arith, e));
  }

  refused : (why : Refusal) → inputs_in files dir ≡ Err why → Appends (refused_line why) before after → Ends 3
  refused why is appended = record {
    runs = (λ e. absurd (omega (arith, e)), λ said. absurd (not_refused said.0 said.1 (why, is)));
    costs = λ e. absurd (omega (arith, e));
    stops = (λ e. absurd (omega (arith, e)), λ said. absurd (not_refused said.0 said.1 (why, is)));
    fault = λ e. absurd (omega (arith, e));
    refused = (λ e. (why, is), λ said. refl);
    told = λ e. (why, is, appended);
  }

  by_error : (error : ReadError) → Reads {Y = Inputs} (Reaches files dir) (Err error) (inputs_in files dir)
      → IsWritten (outcome_of_error error) before after → Ends (status_of (outcome_of_error error))
  by_error (read_error.Refused why) said written = refused why said (appends_line (refused_line why) written written.document)
  by_error (read_error.CannotRead read) said written = absurd (written.undisturbed.0 refl)
  by_error read_error.NoMemory said written = absurd (written.undisturbed.2 refl)

  by_run : (inputs : Inputs) → inputs_in files dir ≡ Ok inputs → (it : Outcome) → IsRunOutcome inputs it → IsWritten it before after → Ends (status_of it)
  by_run inputs accepted it (DoesRun money at is) written =
      let own : IsWritten (Runs money) before after = written_as is written in
      with_status Ends is (ran inputs accepted money at (appends_line (runs_line money) own own.document))
  by_run inputs accepted it (DoesStop fault at is) written =
      let own : IsWritten (Stops fault) before after = written_as is written in
      with_status Ends is (stopped inputs accepted fault at (appends_line (stops_line fault) own own.document))
  by_run inputs accepted it (NoMemoryToRun none) written = absurd (not_memory none written)

module _ (dir : List ℕ) (old new : FolderState) (it : Outcome) where
  pub simulation_ends : IsPlanRun dir old new it → (files : Files) → old.holds ≡ Some files → (before after : Option (List ℕ))
      → IsWritten it before after → EndsSimulation files dir (status_of it) before after
  simulation_ends (NoInputs error read is) files tells before after written =
      with_status (λ status. EndsSimulation files dir status before after) is
      (by_error files dir before after error (read.told files tells) (written_as is written))
  simulation_ends (OfInputs inputs read comes) files tells before after written = by_run files dir before after inputs (read.told files tells) it comes written

-- ---- the status of a command

-- that of an error of the tables
pub error_status : (dir : List ℕ) (old new : FolderState) (error : ReadError)
    → IsCaused dir old new error → IsOfCommand (outcome_of_error error) (Rose old.faults new.faults)
error_status dir old new (read_error.Refused why) caused =
    record { not_usage = λ two. omega (arith, two); unread = λ five. absurd (omega (arith, five)) }
error_status dir old new (read_error.CannotRead read) caused =
    record { not_usage = λ two. omega (arith, two); unread = λ five. caused.0 }
error_status dir old new read_error.NoMemory caused =
    record { not_usage = λ two. omega (arith, two); unread = λ five. absurd (omega (arith, five)) }

pub memory_status : {it : Outcome} {DidRise : Type 0} → it ≡ NoMemory → IsOfCommand it DidRise
memory_status none = of_command none (read_status NoMemory (λ two. omega (arith, two)) (λ five. omega (arith, five)))

run_status : (inputs : Inputs) (it : Outcome) (DidRise : Type 0) → IsRunOutcome inputs it → IsOfCommand it DidRise
run_status inputs it DidRise (DoesRun money at is) = of_command is (read_status (Runs money) (λ two. omega (arith, two)) (λ five. omega (arith, five)))
run_status inputs it DidRise (DoesStop fault at is) = of_command is (read_status (Stops fault) (λ two. omega (arith, two)) (λ five. omega (arith, five)))
run_status inputs it DidRise (NoMemoryToRun none) = memory_status none

module _ (dir : List ℕ) (old new : FolderState) (it : Outcome) where
  pub simulation_status : IsPlanRun dir old new it → IsOfCommand it (Rose old.faults new.faults)
  simulation_status (NoInputs error read is) = of_command is (error_status dir old new error read.caused)
  simulation_status (OfInputs inputs read comes) = run_status inputs it (Rose old.faults new.faults) comes
