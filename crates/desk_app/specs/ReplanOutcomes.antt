-- What the planning of the rest of a disturbed day comes to.
use Rattle.std.specs.Prelude.{ℕ, ◌≡◌, ◌≢◌, ◌<◌, List, length, IsTrue, Some, ⊤}
use Rattle.rail_base.specs.declared.limits.TheConstants.{MAX_TABLE_BYTES}
use Rattle.rail_csv.specs.Tables.{records_of}
use Rattle.rail_io.specs.Folders.{Files, FolderState, OnlyReads, Rose, RosePast}
use Rattle.timetable.specs.Running.{Runs}
use Rattle.day_files.specs.declared.errors.ReadError.{ReadError}
use Rattle.day_files.specs.declared.inputs.Inputs.{Inputs}
use Rattle.day_files.specs.Inputs.{inputs_in}
use Rattle.day_files.specs.OneFile.{path_in}
use Rattle.run_documents.specs.Readings.{AreReadInputs, IsReadError}
use Rattle.cancellations.specs.declared.cancelling.CancelRefusal.{CancelRefusal}
use Rattle.cancellations.specs.declared.cancelling.CancelRefusal.TheVariants as refusal
use Rattle.cancellations.specs.Cancellations.{IsCancelRefusal}
use Rattle.cancellations.specs.DaysWithout.{IsLaterOf}
use Rattle.replan.specs.Promises.{IsReplanned}
use Rattle.desk_commands.specs.declared.replanning.Replanning.{Replanning}
use Rattle.desk_app.specs.declared.files.DeskFile.TheVariants.{CancelledTrips}
use Rattle.desk_app.specs.declared.outcome.DeskOutcome.{DeskOutcome}
use Rattle.desk_app.specs.declared.outcome.DeskOutcome.TheVariants.{Replanned, Stops, Refused, CannotRead, NoMemory}
use Rattle.desk_app.specs.declared.outcome.PlannedRest.{PlannedRest}
use Rattle.desk_app.specs.Cancelled.{SayCancelled, cancelled_bytes, disturbed_at}
use Rattle.desk_app.specs.FileNames.{cancelled_file}
use Rattle.desk_app.specs.ReadErrors.{outcome_of_error}

-- ---- what comes of cancelled trips, and of the bytes of a table of them

-- the later day of a day and its plan without these trips, and the answer to it
pub record IsPlannedRest (inputs : Inputs) (replanning : Replanning) (cancelled : List ℕ) (rest : PlannedRest) : Type 0
  where
    pub later : IsLaterOf inputs.instance cancelled rest.later
    pub replanned : IsReplanned (disturbed_at inputs replanning cancelled) replanning.nodes rest.replanned

-- the rest of the day was planned; or memory ran out
abbrev pub IsRestOutcome : Inputs → Replanning → List ℕ → DeskOutcome → Type 0
IsRestOutcome inputs replanning cancelled (Replanned rest) = IsPlannedRest inputs replanning cancelled rest
IsRestOutcome inputs replanning cancelled NoMemory = ⊤
IsRestOutcome inputs replanning cancelled other = ⊥

-- the rest of the day was planned without the trips that they cancel; or they are refused, and not for want of memory;
-- or memory ran out
abbrev pub IsCancelledOutcome : Inputs → Replanning → List ℕ → DeskOutcome → Type 0
IsCancelledOutcome inputs replanning bytes (Replanned rest) =
    (cancelled : List ℕ) × SayCancelled inputs.instance replanning.minute bytes cancelled
    × IsPlannedRest inputs replanning cancelled rest
IsCancelledOutcome inputs replanning bytes (Refused CancelledTrips) =
    (why : CancelRefusal) × (why ≢ refusal.NoMemory)
    × IsCancelRefusal inputs.instance replanning.minute (records_of bytes) why
IsCancelledOutcome inputs replanning bytes NoMemory = ⊤
IsCancelledOutcome inputs replanning bytes other = ⊥

-- ---- what comes of a day and a plan

module _ (replanning : Replanning) where
  -- Of a day whose plan runs, the rest is to be planned, from the folder before to the same folder after: the table of
  -- cancelled trips could not be read, and its cause is seen in the counts of the folder; or it is too long, likewise;
  -- or its bytes, which are those of the file where the folder tells what it holds, came to this; or memory ran out.
  pub data IsTripsOutcome (inputs : Inputs) (before after : FolderState) (outcome : DeskOutcome) : Type 0 where
    Unread : Rose before.faults after.faults → IsTrue (before.may_fail (path_in replanning.dir cancelled_file))
        → outcome ≡ CannotRead CancelledTrips → IsTripsOutcome inputs before after outcome
    TooLong : RosePast MAX_TABLE_BYTES before.taken after.taken
        → ((files : Files) → before.holds ≡ Some files
        → MAX_TABLE_BYTES < length (cancelled_bytes files replanning.dir))
        → outcome ≡ Refused CancelledTrips → IsTripsOutcome inputs before after outcome
    OfBytes : (bytes : List ℕ)
        → ((files : Files) → before.holds ≡ Some files → bytes ≡ cancelled_bytes files replanning.dir)
        → IsCancelledOutcome inputs replanning bytes outcome → IsTripsOutcome inputs before after outcome
    OutOfMemory : outcome ≡ NoMemory → IsTripsOutcome inputs before after outcome

  -- The plan doesn't run; or it does, and the rest of the day is to be planned; or memory ran out.
  pub data IsRunningOutcome (inputs : Inputs) (before after : FolderState) (outcome : DeskOutcome) : Type 0 where
    DoesStop : ¬ Runs inputs.instance inputs.plan → outcome ≡ Stops → IsRunningOutcome inputs before after outcome
    DoesRun : Runs inputs.instance inputs.plan → IsTripsOutcome inputs before after outcome
        → IsRunningOutcome inputs before after outcome
    Unsimulated : outcome ≡ NoMemory → IsRunningOutcome inputs before after outcome

  -- The rest of a folder's day was to be planned, from the folder before to the same folder after, and that came to
  -- this: there is no day or no plan, for an error of their tables; or they were read, and this came of them from the
  -- folder on as it stood then.
  pub data IsReplanOutcome (before after : FolderState) (outcome : DeskOutcome) : Type 0 where
    NoInputs : (error : ReadError) → IsReadError {Y = Inputs} (λ _. ⊤) (λ files. inputs_in files replanning.dir)
        replanning.dir before after error
        → outcome ≡ outcome_of_error error → IsReplanOutcome before after outcome
    OfInputs : (inputs : Inputs) → AreReadInputs replanning.dir before inputs → (between : FolderState)
        → OnlyReads before between → IsRunningOutcome inputs between after outcome
        → IsReplanOutcome before after outcome
