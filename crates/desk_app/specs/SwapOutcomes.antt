-- What the swapping of units comes to.
use Rattle.std.specs.Prelude.{ℕ, ◌≡◌, ◌≢◌, ◌<◌, List, length, IsTrue, Some, Err, ⊤}
use Rattle.rail_base.specs.declared.limits.TheConstants.{MAX_TABLE_BYTES}
use Rattle.rail_io.specs.Folders.{Files, FolderState, OnlyReads, Rose, RosePast}
use Rattle.timetable.specs.Running.{Runs}
use Rattle.day_files.specs.declared.errors.ReadError.{ReadError}
use Rattle.day_files.specs.declared.inputs.Inputs.{Inputs}
use Rattle.day_files.specs.Inputs.{inputs_in}
use Rattle.day_files.specs.OneFile.{path_in}
use Rattle.day_simulator.specs.declared.events.StepFault.{StepFault}
use Rattle.day_simulator.specs.Finish.{simulation}
use Rattle.run_documents.specs.Readings.{AreReadInputs, IsReadError}
use Rattle.urgent_units.specs.declared.refusal.WishRefusal.{WishRefusal}
use Rattle.urgent_units.specs.declared.refusal.WishRefusal.TheVariants as refusal
use Rattle.urgent_units.specs.declared.wish.Wish.{Wish}
use Rattle.urgent_units.specs.Answers.{BringsMost}
use Rattle.urgent_units.specs.Wishes.{IsWishRefusal}
use Rattle.desk_app.specs.declared.files.DeskFile.TheVariants.{UrgentUnits}
use Rattle.desk_app.specs.declared.outcome.DeskOutcome.{DeskOutcome}
use Rattle.desk_app.specs.declared.outcome.DeskOutcome.TheVariants.{Swapped, Stops, Refused, CannotRead, NoMemory}
use Rattle.desk_app.specs.FileNames.{urgent_file}
use Rattle.desk_app.specs.ReadErrors.{outcome_of_error}
use Rattle.desk_app.specs.Wished.{SayWish, urgent_bytes}

-- the simulation of the plan goes through to the end of the day
abbrev pub GoesThrough : Inputs → Type 0
GoesThrough inputs = (fault : StepFault) → ¬ (simulation inputs.instance inputs.plan ≡ Err fault)

-- ---- what comes of a wish, and of the bytes of a table of urgent units

-- units were swapped for a wish, and the most are brought; or memory ran out
abbrev pub IsMostOutcome : Inputs → Wish → DeskOutcome → Type 0
IsMostOutcome inputs wish (Swapped swapped) = BringsMost inputs.instance inputs.plan wish swapped
IsMostOutcome inputs wish NoMemory = ⊤
IsMostOutcome inputs wish other = ⊥

-- units were swapped for the wish that they say; or they are refused, and not for want of memory; or memory ran out
abbrev pub IsTableOutcome : Inputs → List ℕ → DeskOutcome → Type 0
IsTableOutcome inputs bytes (Swapped swapped) =
    (wish : Wish) × SayWish inputs.instance bytes wish × BringsMost inputs.instance inputs.plan wish swapped
IsTableOutcome inputs bytes (Refused UrgentUnits) =
    (why : WishRefusal) × (why ≢ refusal.NoMemory) × IsWishRefusal inputs.instance bytes why
IsTableOutcome inputs bytes NoMemory = ⊤
IsTableOutcome inputs bytes other = ⊥

-- ---- what comes of a day and a plan

module _ (dir : List ℕ) where
  -- Of a plan that runs, units are to be swapped, from the folder before to the same folder after: the table of
  -- urgent units could not be read, and its cause is seen in the counts of the folder; or it is too long, likewise;
  -- or its bytes, which are those of the file where the folder tells what it holds, came to this; or memory ran out.
  pub data IsWishOutcome (inputs : Inputs) (before after : FolderState) (outcome : DeskOutcome) : Type 0 where
    Unread : Rose before.faults after.faults → IsTrue (before.may_fail (path_in dir urgent_file))
        → outcome ≡ CannotRead UrgentUnits → IsWishOutcome inputs before after outcome
    TooLong : RosePast MAX_TABLE_BYTES before.taken after.taken
        → ((files : Files) → before.holds ≡ Some files → MAX_TABLE_BYTES < length (urgent_bytes files dir))
        → outcome ≡ Refused UrgentUnits → IsWishOutcome inputs before after outcome
    OfBytes : (bytes : List ℕ) → ((files : Files) → before.holds ≡ Some files → bytes ≡ urgent_bytes files dir)
        → IsTableOutcome inputs bytes outcome → IsWishOutcome inputs before after outcome
    OutOfMemory : outcome ≡ NoMemory → IsWishOutcome inputs before after outcome

  -- The plan doesn't run; or it does, and units are to be swapped; or memory ran out.
  pub data IsInputsOutcome (inputs : Inputs) (before after : FolderState) (outcome : DeskOutcome) : Type 0 where
    DoesStop : ¬ Runs inputs.instance inputs.plan → outcome ≡ Stops → IsInputsOutcome inputs before after outcome
    DoesRun : Runs inputs.instance inputs.plan → IsWishOutcome inputs before after outcome
        → IsInputsOutcome inputs before after outcome
    Unsimulated : outcome ≡ NoMemory → IsInputsOutcome inputs before after outcome

  -- Units of a folder's plan were to be swapped, from the folder before to the same folder after, and that came to
  -- this: there is no day or no plan, for an error of their tables; or they were read, and this came of them from the
  -- folder on as it stood then.
  pub data IsSwapOutcome (before after : FolderState) (outcome : DeskOutcome) : Type 0 where
    NoInputs : (error : ReadError) → IsReadError {Y = Inputs} (λ _. ⊤) (λ files. inputs_in files dir) dir before after
        error → outcome ≡ outcome_of_error error → IsSwapOutcome before after outcome
    OfInputs : (inputs : Inputs) → AreReadInputs dir before inputs → (between : FolderState)
        → OnlyReads before between → IsInputsOutcome inputs between after outcome
        → IsSwapOutcome before after outcome
