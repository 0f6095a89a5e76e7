-- Trips in runs: a run goes on for as long as each trip goes on to the next.
use Rattle.std.specs.Prelude.{ℕ, suc, ◌≡◌, ◌≤◌, List, [], ◌∷◌, length, Bool, true, false, if◌then◌else◌, Some}
use Rattle.std.specs.Prelude.{slice_get}
use Rattle.std.specs.List.{All, flat_map}

-- the first trip of a run; 0 of an empty one
abbrev pub first_of : List ℕ → ℕ
first_of [] = 0
first_of (t ∷ ts) = t

-- the last of a trip and those behind it
abbrev pub last_from : ℕ → List ℕ → ℕ
last_from t [] = t
last_from t (s ∷ ts) = last_from s ts

-- the last trip of a run; 0 of an empty one
abbrev pub last_trip_of : List ℕ → ℕ
last_trip_of [] = 0
last_trip_of (t ∷ ts) = last_from t ts

-- These are the longest runs of trips: one after another they are the trips, none is empty, each trip of a run goes on
-- to the next, and the last of a run doesn't go on to the first of the next run.
pub record AreLongestRuns (goes : ℕ → ℕ → Bool) (trips : List ℕ) (runs : List (List ℕ)) : Type 0 where
  pub whole : flat_map (λ run. run) runs ≡ trips
  pub some : All (λ run. 1 ≤ length run) runs
  pub go_on : All (λ run. (k a b : ℕ) → slice_get run k ≡ Some a → slice_get run (suc k) ≡ Some b
      → goes a b ≡ true) runs
  pub longest : (r : ℕ) (run next : List ℕ) → slice_get runs r ≡ Some run → slice_get runs (suc r) ≡ Some next
      → goes (last_trip_of run) (first_of next) ≡ false

-- the runs with one trip more in front: it joins the first run, where it goes on to that, or is a run by itself
abbrev pub with_trip : (ℕ → ℕ → Bool) → ℕ → List (List ℕ) → List (List ℕ)
with_trip goes t [] = (t ∷ []) ∷ []
with_trip goes t (run ∷ runs) = if goes t (first_of run) then (t ∷ run) ∷ runs else (t ∷ []) ∷ run ∷ runs

-- the longest runs of trips
abbrev pub runs_of : (ℕ → ℕ → Bool) → List ℕ → List (List ℕ)
runs_of goes [] = []
runs_of goes (t ∷ ts) = with_trip goes t (runs_of goes ts)
