-- The units that a trip takes from the yard.
use Rattle.std.specs.Prelude.{ℕ, ◌≡◌, List, [], Option, reverse}
use Rattle.std.specs.BTreeSet.{BTreeSet}
use Rattle.inventory.specs.NamedUnits.{InYard, fetched}
use Rattle.timetable.specs.Day.{Day, from_of, leaves}
use Rattle.unit_duties.specs.declared.yards.Waiting.{Waiting}
use Rattle.unit_duties.specs.Trains.{taken_types}
use Rattle.unit_duties.specs.Yards.{AreStanding, AllFound}

-- the yards hold the units that stand in them, and one is ready for each place that a trip fills from the yard
pub record CanFetch (day : Day) (picks : List ℕ) (b : ℕ) (stands : ℕ → Option InYard)
    (yards : BTreeSet Waiting) : Type 0 where
  pub standing : AreStanding day stands [] yards
  pub found : AllFound day stands (from_of day b) (leaves day b) [] (taken_types day picks b)

-- these are the units that the rule names for the places, and the yards hold the others
pub record HasFetched (day : Day) (picks : List ℕ) (b : ℕ) (stands : ℕ → Option InYard)
    (yards : BTreeSet Waiting) (us : List ℕ) : Type 0 where
  pub units : us ≡ fetched day stands (from_of day b) (leaves day b) [] (taken_types day picks b)
  pub others : AreStanding day stands (reverse us) yards
