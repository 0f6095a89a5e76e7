-- Picks of a day: for each trip the number of a composition.
use Rattle.std.specs.Prelude.{ℕ, ◌≡◌, ◌<◌, List, length, map, All}
use Rattle.timetable.specs.Day.{Day, types_of}
use Rattle.timetable.specs.Compositions.{compositions_of, composition_at}
use Rattle.timetable.specs.Running.{Runs}

-- there is one for each trip, and each is the number of a composition of the day
pub record ArePicks (day : Day) (picks : List ℕ) : Type 0 where
  pub trips : length picks ≡ length day.trips
  pub known : All (λ comp. comp < length (compositions_of day)) picks

-- the types of the picked compositions, one list a trip
abbrev pub picked : Day → List ℕ → List (List ℕ)
picked day picks = map (composition_at day) picks

-- a solution: picks that are the types of a plan that runs
pub record IsSolution (day : Day) (picks : List ℕ) : Type 0 where
  pub are_picks : ArePicks day picks
  pub plan : List (List ℕ)
  pub runs : Runs day plan
  pub types : map (types_of day) plan ≡ picked day picks

-- a plan runs, and these are its compositions
pub record RunsByPicks (day : Day) (plan : List (List ℕ)) (picks : List ℕ) : Type 0 where
  pub runs : Runs day plan
  pub are_picks : ArePicks day picks
  pub types : picked day picks ≡ map (types_of day) plan
