-- What the search for the fleet of least cost comes to.
use Rattle.std.specs.Prelude.{ℕ, ◌≡◌, ◌≢◌, ◌<◌, List, length, IsTrue, Some, ⊤}
use Rattle.rail_base.specs.declared.limits.TheConstants.{MAX_TABLE_BYTES}
use Rattle.rail_csv.specs.declared.rows.Table.TheVariants as table
use Rattle.rail_io.specs.Folders.{Files, FolderState, OnlyReads, Rose, RosePast}
use Rattle.timetable.specs.Day.{Day}
use Rattle.day_files.specs.declared.errors.ReadError.{ReadError}
use Rattle.day_files.specs.Inputs.{day_in}
use Rattle.day_files.specs.OneFile.{path_in}
use Rattle.run_documents.specs.Readings.{IsReadDay, IsReadError}
use Rattle.fleet_check.specs.declared.refusal.PriceRefusal.{PriceRefusal}
use Rattle.fleet_check.specs.declared.refusal.PriceRefusal.TheVariants as refusal
use Rattle.fleet_check.specs.PriceTables.{IsPriceRefusal}
use Rattle.fleet_size.specs.declared.planning.Granted.{Granted}
use Rattle.fleet_size.specs.Found.{IsFleetFound}
use Rattle.desk_commands.specs.declared.fleet_planning.FleetPlanning.{FleetPlanning}
use Rattle.desk_app.specs.declared.files.DeskFile.TheVariants.{Prices}
use Rattle.desk_app.specs.declared.outcome.FoundFleet.{FoundFleet}
use Rattle.desk_app.specs.declared.outcome.DeskOutcome.{DeskOutcome}
use Rattle.desk_app.specs.declared.outcome.DeskOutcome.TheVariants.{FleetFound, Refused, CannotRead, NoMemory}
use Rattle.desk_app.specs.FileNames.{prices_file}
use Rattle.desk_app.specs.Priced.{SayPrices, price_bytes}
use Rattle.desk_app.specs.ReadErrors.{outcome_of_error}

-- ---- what comes of prices, and of the bytes of a table of them

-- what the words grant
abbrev pub granted_by : FleetPlanning → Granted
granted_by planning = record {
  branchings = planning.nodes;
  rounds = planning.rounds;
  splits = planning.splits;
  evaluations = planning.evaluations;
}

-- the fleet that was found for a day at these prices, and how many types the day has
pub record IsFoundFleet (day : Day) (prices : List ℕ) (planning : FleetPlanning) (found : FoundFleet) : Type 0 where
  pub types : found.types ≡ length day.types
  pub promise : IsFleetFound day prices (granted_by planning) found.fleet

-- the fleet was found at these prices; or memory ran out
abbrev pub IsPricedOutcome : Day → List ℕ → FleetPlanning → DeskOutcome → Type 0
IsPricedOutcome day prices planning (FleetFound found) = IsFoundFleet day prices planning found
IsPricedOutcome day prices planning NoMemory = ⊤
IsPricedOutcome day prices planning other = ⊥

-- the fleet was found at the prices that they say; or they are refused, and not for want of memory; or memory ran out
abbrev pub IsPriceTableOutcome : Day → FleetPlanning → List ℕ → DeskOutcome → Type 0
IsPriceTableOutcome day planning bytes (FleetFound found) =
    (prices : List ℕ) × SayPrices day bytes prices × IsFoundFleet day prices planning found
IsPriceTableOutcome day planning bytes (Refused Prices) =
    (why : PriceRefusal) × (why ≢ refusal.NoMemory) × IsPriceRefusal day bytes why
IsPriceTableOutcome day planning bytes NoMemory = ⊤
IsPriceTableOutcome day planning bytes other = ⊥

-- ---- what comes of a day

module _ (planning : FleetPlanning) where
  -- For a day, the fleet is to be found, from the folder before to the same folder after: the table of prices could not
  -- be read, and its cause is seen in the counts of the folder; or it is too long, likewise; or its bytes, which are
  -- those of the file where the folder tells what it holds, came to this; or memory ran out.
  pub data IsPricesOutcome (day : Day) (before after : FolderState) (outcome : DeskOutcome) : Type 0 where
    Unread : Rose before.faults after.faults → IsTrue (before.may_fail (path_in planning.dir prices_file))
        → outcome ≡ CannotRead Prices → IsPricesOutcome day before after outcome
    TooLong : RosePast MAX_TABLE_BYTES before.taken after.taken
        → ((files : Files) → before.holds ≡ Some files → MAX_TABLE_BYTES < length (price_bytes files planning.dir))
        → outcome ≡ Refused Prices → IsPricesOutcome day before after outcome
    OfBytes : (bytes : List ℕ) → ((files : Files) → before.holds ≡ Some files → bytes ≡ price_bytes files planning.dir)
        → IsPriceTableOutcome day planning bytes outcome → IsPricesOutcome day before after outcome
    OutOfMemory : outcome ≡ NoMemory → IsPricesOutcome day before after outcome

  -- The fleet for a folder's day was to be found, from the folder before to the same folder after, and that came to
  -- this: there is no day, for an error of its tables; or the day was read, and this came of it from the folder on as
  -- it stood then.
  pub data IsFleetOutcome (before after : FolderState) (outcome : DeskOutcome) : Type 0 where
    NoDay : (error : ReadError) → IsReadError {Y = Day} (λ read. read ≢ table.Plan)
        (λ files. day_in files planning.dir) planning.dir before after error
        → outcome ≡ outcome_of_error error → IsFleetOutcome before after outcome
    OfReadDay : (day : Day) → IsReadDay planning.dir before day → (between : FolderState)
        → OnlyReads before between → IsPricesOutcome day between after outcome → IsFleetOutcome before after outcome
