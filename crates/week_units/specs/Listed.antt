-- Units that are listed with their types and the stations where they stand.
use Rattle.std.specs.Prelude.{ℕ, ◌≡◌, ◌<◌, List, length}
use Rattle.rules.specs.declared.records.Unit as unit
use Rattle.timetable.specs.Day.{Units}
use Rattle.timetable.specs.Lists.{of_entry}
use Rattle.week_units.specs.Names.{name_in}

abbrev pub units_listed : List unit.Unit → Units
units_listed listed =
    record {
      count = length listed;
      unit_type = λ u. of_entry (λ x. x.unit_type) listed u 0;
      home = λ u. of_entry (λ x. x.home) listed u 0;
    }

-- as many units, of the same types, at the same stations
pub record AreAlike (units others : Units) : Type 0 where
  pub count : others.count ≡ units.count
  pub unit_type : (u : ℕ) → u < units.count → others.unit_type u ≡ units.unit_type u
  pub home : (u : ℕ) → u < units.count → others.home u ≡ units.home u

-- the same units, of which those that the first so many names name are at their places
pub record ArePlaced (names places : List ℕ) (many : ℕ) (before after : List unit.Unit) : Type 0 where
  pub count : length after ≡ length before
  pub unit_type : (u : ℕ) → (units_listed after).unit_type u ≡ (units_listed before).unit_type u
  pub placed : (u : ℕ) → u < many → (units_listed after).home (name_in names u) ≡ of_entry (λ s. s) places u 0
