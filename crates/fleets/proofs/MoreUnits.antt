-- A plan that runs with the units of a fleet runs with more.
use Rattle.std.proofs.Common.{refl, ◌≡◌, ◌∙◌, ℕ, ◌+◌, ◌/◌, ◌%◌, ◌≤◌, List, [], ◌∷◌, length, sym, arith}
use Rattle.std.proofs.Common.{Bool, true, false}
use Rattle.std.specs.Prelude.{◌==◌, ◌&&◌, if◌then◌else◌}
use Rattle.timetable.specs.Day.{Day, Units, stock_units, wanted_of}
use Rattle.timetable.specs.Renumbering.{standing_at, AreAmong, RunsAmong, kth_number, renumbered}
use Rattle.timetable.specs.Running.{Runs, EndsAsWanted, ending_of}
use Rattle.timetable.specs.Starts.{start_in, start_of}
use Rattle.timetable.proofs.AtHome.{units_are_at_home}
use Rattle.timetable.proofs.KthUnits.{kth_units_are_among}
use Rattle.timetable.proofs.Renumbered.{runs_in_parts, plans_run_among}
use Rattle.fleets.specs.Fleets.{IsNowhereAbove, stock_from, with_fleet}
use Rattle.fleets.specs.Laws.{PlansRunWithMoreUnits, RunsAlikeWith}
use Rattle.fleets.proofs.Places.{rows_once}
use Rattle.fleets.proofs.Standing.{wanted_is}

-- nowhere do more units stand
pub start_grows : (types place s m : ℕ) (small large : List ℕ) → IsNowhereAbove small large → start_in (stock_from types place small) s m ≤ start_in (stock_from types place large) s m
start_grows types place s m [] [] below = omega arith
start_grows types place s m [] (b ∷ large) below = absurd below
start_grows types place s m (a ∷ small) [] below = absurd below
start_grows types place s m (a ∷ small) (b ∷ large) below =
    one (((place / types) == s) && ((place % types) == m)) a b (start_in (stock_from types (place + 1) small) s m) (start_in (stock_from types (place + 1) large) s m)
    below.0 (start_grows types (place + 1) s m small large below.1)
  where
    one : (here : Bool) (a b more most : ℕ) → a ≤ b → more ≤ most → (if here then a else more) ≤ (if here then b else most)
    one true a b more most first rest = first
    one false a b more most first rest = rest

module _ (day : Day) where
  -- how many units stand where, on the day with a fleet
  stands : (fleet : List ℕ) (s m : ℕ) → standing_at (stock_units (with_fleet fleet day)) s m ≡ start_in (stock_from (length day.types) 0 fleet) s m
  unfolding start_of
  stands fleet s m = units_are_at_home (with_fleet fleet day) s m (rows_once (length day.types) 0 s m fleet)

  module _ (small large : List ℕ) (below : IsNowhereAbove small large) where
    abbrev few : Units
    few = stock_units (with_fleet small day)

    abbrev more : Units
    more = stock_units (with_fleet large day)

    grows : (s m : ℕ) → standing_at few s m ≤ standing_at more s m
    grows s m =
        let least : standing_at few s m ≡ start_in (stock_from (length day.types) 0 small) s m = stands small s m in
        let most : standing_at more s m ≡ start_in (stock_from (length day.types) 0 large) s m = stands large s m in
        let under = start_grows (length day.types) 0 s m small large below in
        omega arith

    among : AreAmong few more (kth_number few more)
    among = (kth_units_are_among few more grows).among

    runs_with : (plan : List (List ℕ)) → Runs (with_fleet small day) plan → RunsAlikeWith day small large plan
    unfolding wanted_of
    runs_with plan runs =
        let parts = (runs_in_parts few (with_fleet small day) plan).0 runs in
        let alike : RunsAmong few more (kth_number few more) (with_fleet small day) (stock_from (length day.types) 0 large) plan =
        plans_run_among few more (kth_number few more) (with_fleet small day) (stock_from (length day.types) 0 large) plan among runs.is_plan in
        let other : List (List ℕ) = renumbered (kth_number few more) plan in
        let ends : EndsAsWanted more (with_fleet large day) other = λ s m station unit_type.
        let at : ending_of more (with_fleet large day) other s m + standing_at few s m ≡ ending_of few (with_fleet small day) plan s m + standing_at more s m = alike.ends s m in
        let before : ending_of few (with_fleet small day) plan s m ≡ start_in (stock_from (length day.types) 0 small) s m = parts.1 s m station unit_type ∙ wanted_is (length day.types) 0 s m small in
        let least : standing_at few s m ≡ start_in (stock_from (length day.types) 0 small) s m = stands small s m in
        let most : standing_at more s m ≡ start_in (stock_from (length day.types) 0 large) s m = stands large s m in
        let same : ending_of more (with_fleet large day) other s m ≡ start_in (stock_from (length day.types) 0 large) s m = omega arith in
        same ∙ sym (wanted_is (length day.types) 0 s m large) in
        record {
          other = other;
          number = kth_number few more;
          is = refl;
          does_run = (runs_in_parts more (with_fleet large day) other).1 (alike.runs parts.0, ends);
          types = alike.types;
          cost = alike.cost;
        }

pub plans_run_with_more_units : PlansRunWithMoreUnits
plans_run_with_more_units day small large plan below runs = runs_with day small large below plan runs
