-- Yard prices under multipliers: what a unit is charged that is taken from a yard, and credited that is given to one.
use Rattle.std.specs.Prelude.{ℕ, List, get_or, ◌&&◌, ◌==◌, if◌then◌else◌, nat_le, option_map, unwrap_or}
use Rattle.std.specs.Prelude.{slice_get, ℤ, pos}
use Rattle.timetable.specs.declared.day.indices.Place.{Place}
use Rattle.timetable.specs.declared.day.indices.Place.TheVariants.{Lambda, Mu, Sigma}
use Rattle.timetable.specs.Day.{Day, leaves, from_of, to_of, ready_at}
use Rattle.timetable.specs.Indices.{places_of}
use Rattle.timetable.specs.Minutes.{minutes_of}
use Rattle.branch_tree.specs.declared.multipliers.Entry.{Entry}
use Rattle.branch_tree.specs.IntSums.{int_sum}

-- what a multiplier gives, by what it belongs to and its value; nothing where there is no such index
abbrev pub by_place : Day → (Place → ℤ → ℤ) → Entry → ℤ
by_place day f entry =
    unwrap_or (option_map (λ place. f place entry.value) (slice_get (places_of day) entry.index)) (pos 0)

-- a value that counts for units of a type alone
abbrev pub of_type : ℕ → ℕ → ℤ → ℤ
of_type m unit_type value = if m == unit_type then value else pos 0

-- what a multiplier adds to the price of a unit of type m in the yard of station s at a minute: its value, where it is
-- of this station and type, and of this minute or a later one if it is of a departure minute
abbrev pub price_by : Day → ℕ → ℕ → ℕ → Place → ℤ → ℤ
price_by day s minute m (Lambda station unit_type k) value =
    if (s == station) && nat_le minute (get_or (minutes_of day station) k 0) then of_type m unit_type value else pos 0
price_by day s minute m (Mu station unit_type) value = if s == station then of_type m unit_type value else pos 0
price_by day s minute m (Sigma h c) value = pos 0

-- the yard price of a unit: that of its station and type, and those of the departure minutes of the station from the
-- minute on
unfoldable pub yard_price : Day → List Entry → ℕ → ℕ → ℕ → ℤ
yard_price day entries s minute m = int_sum (by_place day (price_by day s minute m)) entries

-- the price of units that a trip takes, by their types: at its departure; and of those that it gives: when they are
-- ready
abbrev pub taking : Day → List Entry → ℕ → List ℕ → ℤ
taking day entries t types = int_sum (yard_price day entries (from_of day t) (leaves day t)) types

abbrev pub giving : Day → List Entry → ℕ → List ℕ → ℤ
giving day entries t types = int_sum (yard_price day entries (to_of day t) (ready_at day t)) types
