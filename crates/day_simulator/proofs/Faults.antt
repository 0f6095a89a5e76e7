-- When an event is now, and what its fault is, from the tests one after another.
use Rattle.std.proofs.Common.{◌≡◌, ℕ, ◌<◌, ◌≤◌, List, Some, Bool, true, false, not, ◌&&◌, cond, refl, sym, ap, ◌∙◌, leb}
use Rattle.std.proofs.Common.{arith}
use Rattle.std.specs.Prelude.{option_map}
use Rattle.std.specs.List.{list_all}
use Rattle.std.proofs.lemmas.Bool.{le-leb}
use Rattle.std.proofs.lemmas.Bool.Decides.{nat_tests}
use Rattle.timetable.specs.Day.{Day}
use Rattle.timetable.specs.Links.{trips_into}
use Rattle.day_simulator.specs.declared.events.DayEvent.{DayEvent}
use Rattle.day_simulator.specs.declared.events.DayEvent.TheVariants.{Depart, Arrive}
use Rattle.day_simulator.specs.declared.events.StepFault.TheVariants.{NotNow, LinkBroken}
use Rattle.day_simulator.specs.State.{State, stage_of, is_waiting, is_under_way, has_arrived, moment_of}
use Rattle.day_simulator.specs.Steps.{is_now, broken_out, train_fault, fault_of}

-- an event that is not now has that fault
pub not_now : (day : Day) (plan : List (List ℕ)) (state : State) (e : DayEvent) → is_now day state e ≡ false → Some (NotNow e) ≡ fault_of day plan state e
unfolding fault_of
not_now day plan state (Depart t) now = rw now refl
not_now day plan state (Arrive t) now = rw now refl

passed : (a b : ℕ) → b < a → leb a b ≡ false
passed a b l = grind (arith, nat_tests)

module _ (day : Day) (state : State) where
  -- whether all the trips into a trip have arrived
  abbrev have_arrived : ℕ → Bool
  have_arrived t = list_all (λ a. has_arrived (stage_of state.stages a)) (trips_into day t)

  -- an event whose moment has passed is not now
  pub too_late : (e : DayEvent) → moment_of day e < state.moment → false ≡ is_now day state e
  unfolding is_now
  too_late (Depart t) l = sym (ap (λ (b : Bool). b && is_waiting (stage_of state.stages t) && have_arrived t) (passed state.moment (moment_of day (Depart t)) l))
  too_late (Arrive t) l = sym (ap (λ (b : Bool). b && is_under_way (stage_of state.stages t)) (passed state.moment (moment_of day (Arrive t)) l))

  -- one that has not passed is now where its trip, and those that it waits for, have come so far
  departure_in_time : (t : ℕ) → state.moment ≤ moment_of day (Depart t) → is_now day state (Depart t) ≡ is_waiting (stage_of state.stages t) && have_arrived t
  unfolding is_now
  departure_in_time t l = ap (λ (b : Bool). b && is_waiting (stage_of state.stages t) && have_arrived t) (le-leb state.moment (moment_of day (Depart t)) l)

  pub departure_of_waiting : (t : ℕ) → state.moment ≤ moment_of day (Depart t) → is_waiting (stage_of state.stages t) ≡ true → is_now day state (Depart t) ≡ have_arrived t
  departure_of_waiting t l waits = departure_in_time t l ∙ ap (λ (b : Bool). b && have_arrived t) waits

  pub departure_of_left : (t : ℕ) → state.moment ≤ moment_of day (Depart t) → is_waiting (stage_of state.stages t) ≡ false → is_now day state (Depart t) ≡ false
  departure_of_left t l left = departure_in_time t l ∙ ap (λ (b : Bool). b && have_arrived t) left

  pub arrival_in_time : (t : ℕ) → state.moment ≤ moment_of day (Arrive t) → is_now day state (Arrive t) ≡ is_under_way (stage_of state.stages t)
  unfolding is_now
  arrival_in_time t l = ap (λ (b : Bool). b && is_under_way (stage_of state.stages t)) (le-leb state.moment (moment_of day (Arrive t)) l)

module _ (day : Day) (plan : List (List ℕ)) (state : State) (t : ℕ) where
  -- the faults of a departure that is now
  pub departure_now : is_now day state (Depart t) ≡ true → train_fault day plan state.locations t ≡ fault_of day plan state (Depart t)
  unfolding fault_of
  departure_now now = sym (ap (λ (b : Bool). cond (not b) (Some (NotNow (Depart t))) (train_fault day plan state.locations t)) now)

  -- the faults of an arrival that is now
  pub arrival_now : is_now day state (Arrive t) ≡ true → option_map (λ l. LinkBroken l) (broken_out day plan t) ≡ fault_of day plan state (Arrive t)
  unfolding fault_of
  arrival_now now = sym (ap (λ (b : Bool). cond (not b) (Some (NotNow (Arrive t))) (option_map (λ l. LinkBroken l) (broken_out day plan t))) now)
