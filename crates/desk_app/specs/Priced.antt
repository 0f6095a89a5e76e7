-- What the files of a folder say of prices.
use Rattle.std.specs.Prelude.{ℕ, ◌≡◌, ◌≢◌, ◌<◌, ◌≤◌, List, length, Ok, Err}
use Rattle.rail_base.specs.declared.limits.TheConstants.{MAX_TABLE_BYTES}
use Rattle.rail_io.specs.Folders.{Files}
use Rattle.timetable.specs.Day.{Day}
use Rattle.day_files.specs.declared.errors.Refusal.{Refusal}
use Rattle.day_files.specs.Inputs.{day_in}
use Rattle.day_files.specs.OneFile.{bytes_at}
use Rattle.day_files.specs.Texts.{refusal_file}
use Rattle.fleet_check.specs.declared.refusal.PriceRefusal.{PriceRefusal}
use Rattle.fleet_check.specs.declared.refusal.PriceRefusal.TheVariants.{NoMemory}
use Rattle.fleet_check.specs.PriceTables.{ArePricesOf, IsPriceRefusal}
use Rattle.desk_app.specs.declared.files.DeskFile.{DeskFile}
use Rattle.desk_app.specs.declared.files.DeskFile.TheVariants.{OfTable, Prices}
use Rattle.desk_app.specs.FileNames.{prices_file}

-- the bytes of the table of prices
abbrev pub price_bytes : Files → List ℕ → List ℕ
price_bytes files dir = bytes_at files dir prices_file

-- ---- bytes

-- they are no more than a table may have, and say these prices of the types of a day
pub record SayPrices (day : Day) (bytes prices : List ℕ) : Type 0 where
  pub few : length bytes ≤ MAX_TABLE_BYTES
  pub says : ArePricesOf day bytes prices

-- they are more; or they are refused as a table of prices of the day, and not for want of memory
pub data SayNoPrices (day : Day) (bytes : List ℕ) : Type 0 where
  TooMany : MAX_TABLE_BYTES < length bytes → SayNoPrices day bytes
  AreWrong : (why : PriceRefusal) → why ≢ NoMemory → IsPriceRefusal day bytes why → SayNoPrices day bytes

-- ---- files

-- they are accepted as a day and the prices of its types
pub record ArePriced (files : Files) (dir : List ℕ) (day : Day) (prices : List ℕ) : Type 0 where
  pub accepted : day_in files dir ≡ Ok day
  pub said : SayPrices day (price_bytes files dir) prices

-- A file is refused: one of the day; or, where these are accepted, the table of prices.
pub data IsRefusedForFleet (files : Files) (dir : List ℕ) (file : DeskFile) : Type 0 where
  OfTables : (why : Refusal) → day_in files dir ≡ Err why → file ≡ OfTable (refusal_file why)
      → IsRefusedForFleet files dir file
  OfPrices : (day : Day) → day_in files dir ≡ Ok day → SayNoPrices day (price_bytes files dir) → file ≡ Prices
      → IsRefusedForFleet files dir file
