-- What the files of a folder say of cancelled trips.
use Rattle.std.specs.Prelude.{ℕ, ◌≡◌, ◌≢◌, ◌<◌, ◌≤◌, List, length, Err}
use Rattle.rail_base.specs.declared.limits.TheConstants.{MAX_TABLE_BYTES}
use Rattle.rail_csv.specs.Tables.{records_of}
use Rattle.rail_io.specs.Folders.{Files}
use Rattle.timetable.specs.Day.{Day}
use Rattle.day_files.specs.declared.errors.Refusal.{Refusal}
use Rattle.day_files.specs.declared.inputs.Inputs.{Inputs}
use Rattle.day_files.specs.Inputs.{inputs_in}
use Rattle.day_files.specs.OneFile.{bytes_at}
use Rattle.day_files.specs.Texts.{refusal_file}
use Rattle.cancellations.specs.declared.cancelling.CancelRefusal.{CancelRefusal}
use Rattle.cancellations.specs.declared.cancelling.CancelRefusal.TheVariants.{NoMemory}
use Rattle.cancellations.specs.Cancellations.{CancelAll, IsCancelRefusal}
use Rattle.replan.specs.Disturbances.{Disturbed, disturbed_by}
use Rattle.desk_commands.specs.declared.replanning.Replanning.{Replanning}
use Rattle.desk_app.specs.declared.files.DeskFile.{DeskFile}
use Rattle.desk_app.specs.declared.files.DeskFile.TheVariants.{CancelledTrips, OfTable}
use Rattle.desk_app.specs.FileNames.{cancelled_file}
use Rattle.desk_app.specs.Wished.{AreRunning}

-- the bytes of the table of cancelled trips
abbrev pub cancelled_bytes : Files → List ℕ → List ℕ
cancelled_bytes files dir = bytes_at files dir cancelled_file

-- ---- bytes

-- they are no more than a table may have, and cancel these trips of a day at a minute
pub record SayCancelled (day : Day) (minute : ℕ) (bytes cancelled : List ℕ) : Type 0 where
  pub few : length bytes ≤ MAX_TABLE_BYTES
  pub says : CancelAll day minute (records_of bytes) cancelled

-- they are more; or they are refused as a table of cancelled trips, and not for want of memory
pub data SayNoneCancelled (day : Day) (minute : ℕ) (bytes : List ℕ) : Type 0 where
  TooMany : MAX_TABLE_BYTES < length bytes → SayNoneCancelled day minute bytes
  AreWrong : (why : CancelRefusal) → why ≢ NoMemory → IsCancelRefusal day minute (records_of bytes) why
      → SayNoneCancelled day minute bytes

-- ---- files

-- a day and its plan, disturbed at the minute of the words, when these trips are cancelled
abbrev pub disturbed_at : Inputs → Replanning → List ℕ → Disturbed
disturbed_at inputs replanning cancelled =
    disturbed_by inputs.instance inputs.plan replanning.minute cancelled replanning.change

-- they are accepted as a day, a plan of it, which runs, and trips of it that are cancelled
pub record AreDisturbed (files : Files) (replanning : Replanning) (inputs : Inputs) (cancelled : List ℕ) : Type 0 where
  pub running : AreRunning files replanning.dir inputs
  pub said : SayCancelled inputs.instance replanning.minute (cancelled_bytes files replanning.dir) cancelled

-- A file is refused: one of the day and its plan; or, where the plan runs, the table of cancelled trips.
pub data IsRefusedForReplan (files : Files) (replanning : Replanning) (file : DeskFile) : Type 0 where
  OfInputs : (why : Refusal) → inputs_in files replanning.dir ≡ Err why → file ≡ OfTable (refusal_file why)
      → IsRefusedForReplan files replanning file
  OfCancelled : (inputs : Inputs) → AreRunning files replanning.dir inputs
      → SayNoneCancelled inputs.instance replanning.minute (cancelled_bytes files replanning.dir)
      → file ≡ CancelledTrips → IsRefusedForReplan files replanning file
