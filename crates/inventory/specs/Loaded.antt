-- What a ledger has loaded.
use Rattle.std.specs.Prelude.{ℕ, List, [], Bool, if◌then◌else◌}
use Rattle.timetable.specs.Day.{Day}
use Rattle.timetable.specs.Picks.{picked}

-- a day, and the types of the compositions that were picked for its trips; none before picks were loaded
pub record Loaded : Type 0 where
  pub day : Day
  pub lists : List (List ℕ)

abbrev pub lists_in : Day → Bool → List ℕ → List (List ℕ)
lists_in day is_loaded picks = if is_loaded then picked day picks else []
