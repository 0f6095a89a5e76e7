-- What an event changes.
use Rattle.std.proofs.Common.{◌≡◌, ℕ, ◌<◌, List, length, Bool, true, false, cond, ap, ◌∙◌, arith}
use Rattle.std.proofs.lemmas.List.{length-set}
use Rattle.timetable.specs.Day.{Day, to_of, ready_at, unit_count}
use Rattle.timetable.specs.Links.{list_of, given}
use Rattle.timetable.specs.Lists.{has}
use Rattle.timetable.specs.Running.{IsPlan}
use Rattle.day_simulator.specs.declared.events.DayEvent.TheVariants.{Depart, Arrive}
use Rattle.day_simulator.specs.declared.events.UnitLocation.{UnitLocation}
use Rattle.day_simulator.specs.declared.events.UnitLocation.TheVariants.{Yard, Aboard, Standing}
use Rattle.day_simulator.specs.declared.events.Stage.TheVariants as stage
use Rattle.day_simulator.specs.State.{State, location_of, put_all, moment_of}
use Rattle.day_simulator.specs.Steps.{after}
use Rattle.day_simulator.specs.StepEffects.{Leaves, Arrives, StepsChangeStates}
use Rattle.day_simulator.proofs.LinkTrips.{given_known}
use Rattle.day_simulator.proofs.Places.{stage_same, stage_other}
use Rattle.day_simulator.proofs.PutPlaces.{length-put_all, location_of-put_all}

put_there : (ps : List UnitLocation) (us : List ℕ) (p : UnitLocation) (u : ℕ) → u < length ps → has u us ≡ true → location_of (put_all ps us p) u ≡ p
put_there ps us p u inside listed = location_of-put_all ps us p u inside ∙ ap (λ (b : Bool). cond b p (location_of ps u)) listed

left_there : (ps : List UnitLocation) (us : List ℕ) (p : UnitLocation) (u : ℕ) → u < length ps → has u us ≡ false → location_of (put_all ps us p) u ≡ location_of ps u
left_there ps us p u inside other = location_of-put_all ps us p u inside ∙ ap (λ (b : Bool). cond b p (location_of ps u)) other

module _ (day : Day) (plan : List (List ℕ)) (state : State) (t : ℕ) (is_plan : IsPlan day plan) (known : t < length day.trips)
    (locations : length state.locations ≡ unit_count day) (stages : length state.stages ≡ length day.trips) where
  inside : (u : ℕ) → u < unit_count day → u < length state.locations
  inside u unit = omega (arith, unit, locations)

  in_stages : t < length state.stages
  in_stages = omega (arith, known, stages)

  leaves : Leaves day plan state (after day plan state (Depart t)) t
  unfolding after moment_of
  leaves = record {
    listed = λ u listed. put_there state.locations (list_of plan t) (Aboard t) u (inside u (is_plan.units t u listed)) listed;
    other_units = λ u unit other. left_there state.locations (list_of plan t) (Aboard t) u (inside u unit) other;
    trip = stage_same state.stages t stage.UnderWay in_stages;
    other_trips = λ s other. stage_other state.stages t s stage.UnderWay other;
    locations = length-put_all state.locations (list_of plan t) (Aboard t) ∙ locations;
    stages = length-set state.stages t stage.UnderWay ∙ stages;
    minute = omega arith;
    event = omega arith;
  }

  -- the train stands, and then the units that it gives are put to the yard
  abbrev train : List UnitLocation
  train = put_all state.locations (list_of plan t) (Standing t)

  in_train : (u : ℕ) → u < unit_count day → u < length train
  in_train u unit = omega (arith, unit, locations, length-put_all state.locations (list_of plan t) (Standing t))

  arrives : Arrives day plan state (after day plan state (Arrive t)) t
  unfolding after moment_of
  arrives = record {
    in_yard = λ u gives. put_there train (given day plan t) (Yard (to_of day t) (ready_at day t)) u (in_train u (given_known day plan is_plan t u gives)) gives;
    in_train = λ u listed keeps.
        let unit = is_plan.units t u listed in
        left_there train (given day plan t) (Yard (to_of day t) (ready_at day t)) u (in_train u unit) keeps
        ∙ put_there state.locations (list_of plan t) (Standing t) u (inside u unit) listed;
    other_units = λ u unit other keeps.
        left_there train (given day plan t) (Yard (to_of day t) (ready_at day t)) u (in_train u unit) keeps
        ∙ left_there state.locations (list_of plan t) (Standing t) u (inside u unit) other;
    trip = stage_same state.stages t stage.Arrived in_stages;
    other_trips = λ s other. stage_other state.stages t s stage.Arrived other;
    locations = length-put_all train (given day plan t) (Yard (to_of day t) (ready_at day t))
        ∙ length-put_all state.locations (list_of plan t) (Standing t) ∙ locations;
    stages = length-set state.stages t stage.Arrived ∙ stages;
    minute = omega arith;
    event = λ one. omega (arith, one);
  }

pub steps_change_states : StepsChangeStates
steps_change_states day plan state (Depart t) is_plan known locations stages = leaves day plan state t is_plan known locations stages
steps_change_states day plan state (Arrive t) is_plan known locations stages = arrives day plan state t is_plan known locations stages
