-- What is so of tables of prices, and of what is said of all fleets.
use Rattle.std.specs.Prelude.{ℕ, ◌≡◌, ◌≢◌, List}
use Rattle.timetable.specs.Day.{Day}
use Rattle.fleet_check.specs.declared.found.Fleet.{Fleet}
use Rattle.fleet_check.specs.declared.refusal.PriceRefusal.{PriceRefusal}
use Rattle.fleet_check.specs.declared.refusal.PriceRefusal.TheVariants.{NoMemory}
use Rattle.fleet_check.specs.declared.verdict.FleetVerdict.{FleetVerdict}
use Rattle.fleet_check.specs.PriceTables.{ArePricesOf, IsPriceRefusal}
use Rattle.fleet_check.specs.Verdicts.{IsVerdict}

-- a table says one list of prices at most, or it is refused, for one cause at most: want of
-- memory aside
pub record AreDecided (day : Day) (bytes : List ℕ) : Type 0 where
  pub prices : (prices other : List ℕ) → ArePricesOf day bytes prices → ArePricesOf day bytes other → prices ≡ other
  pub refused : (prices : List ℕ) (refusal : PriceRefusal) → ArePricesOf day bytes prices
      → IsPriceRefusal day bytes refusal → refusal ≡ NoMemory
  pub refusals : (refusal other : PriceRefusal) → IsPriceRefusal day bytes refusal → IsPriceRefusal day bytes other
      → refusal ≢ NoMemory → other ≢ NoMemory → refusal ≡ other

abbrev pub PricesAreDecided : Type 0
PricesAreDecided = (day : Day) (bytes : List ℕ) → AreDecided day bytes

-- what is said of all fleets of a day has one verdict at most, and so one first thing that is wrong
abbrev pub FleetVerdictsAreOne : Type 0
FleetVerdictsAreOne = (day : Day) (prices : List ℕ) (fleet : Fleet) (one other : FleetVerdict)
    → IsVerdict day prices fleet one → IsVerdict day prices fleet other → one ≡ other
