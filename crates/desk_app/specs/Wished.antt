-- What the files of a folder say of urgent units.
use Rattle.std.specs.Prelude.{ℕ, ◌≡◌, ◌≢◌, ◌<◌, ◌≤◌, List, length, Ok, Err}
use Rattle.rail_base.specs.declared.limits.TheConstants.{MAX_TABLE_BYTES}
use Rattle.rail_io.specs.Folders.{Files}
use Rattle.timetable.specs.Day.{Day}
use Rattle.timetable.specs.Running.{Runs}
use Rattle.day_files.specs.declared.errors.Refusal.{Refusal}
use Rattle.day_files.specs.declared.inputs.Inputs.{Inputs}
use Rattle.day_files.specs.Inputs.{inputs_in}
use Rattle.day_files.specs.OneFile.{bytes_at}
use Rattle.day_files.specs.Texts.{refusal_file}
use Rattle.urgent_units.specs.declared.refusal.WishRefusal.{WishRefusal}
use Rattle.urgent_units.specs.declared.refusal.WishRefusal.TheVariants.{NoMemory}
use Rattle.urgent_units.specs.declared.wish.Wish.{Wish}
use Rattle.urgent_units.specs.Wishes.{IsWishOf, IsWishRefusal}
use Rattle.desk_app.specs.declared.files.DeskFile.{DeskFile}
use Rattle.desk_app.specs.declared.files.DeskFile.TheVariants.{OfTable, UrgentUnits}
use Rattle.desk_app.specs.FileNames.{urgent_file}

-- the bytes of the table of urgent units
abbrev pub urgent_bytes : Files → List ℕ → List ℕ
urgent_bytes files dir = bytes_at files dir urgent_file

-- ---- bytes

-- they are no more than a table may have, and say this wish for a day
pub record SayWish (day : Day) (bytes : List ℕ) (wish : Wish) : Type 0 where
  pub few : length bytes ≤ MAX_TABLE_BYTES
  pub says : IsWishOf day bytes wish

-- they are more; or they are refused as a table of urgent units of the day, and not for want of memory
pub data SayNoWish (day : Day) (bytes : List ℕ) : Type 0 where
  TooMany : MAX_TABLE_BYTES < length bytes → SayNoWish day bytes
  AreWrong : (why : WishRefusal) → why ≢ NoMemory → IsWishRefusal day bytes why → SayNoWish day bytes

-- ---- files

-- they are accepted as a day and a plan of it, which runs
pub record AreRunning (files : Files) (dir : List ℕ) (inputs : Inputs) : Type 0 where
  pub accepted : inputs_in files dir ≡ Ok inputs
  pub runs : Runs inputs.instance inputs.plan

-- they are accepted as a day, a plan of it, which runs, and a wish for it
pub record AreWished (files : Files) (dir : List ℕ) (inputs : Inputs) (wish : Wish) : Type 0 where
  pub running : AreRunning files dir inputs
  pub said : SayWish inputs.instance (urgent_bytes files dir) wish

-- they are accepted as a day and a plan of it, which doesn't run
pub record AreStopped (files : Files) (dir : List ℕ) (inputs : Inputs) : Type 0 where
  pub accepted : inputs_in files dir ≡ Ok inputs
  pub stops : ¬ Runs inputs.instance inputs.plan

-- A file is refused: one of the day and its plan; or, where the plan runs, the table of urgent units.
pub data IsRefusedForUrgent (files : Files) (dir : List ℕ) (file : DeskFile) : Type 0 where
  OfInputs : (why : Refusal) → inputs_in files dir ≡ Err why → file ≡ OfTable (refusal_file why)
      → IsRefusedForUrgent files dir file
  OfWish : (inputs : Inputs) → AreRunning files dir inputs → SayNoWish inputs.instance (urgent_bytes files dir)
      → file ≡ UrgentUnits → IsRefusedForUrgent files dir file
