-- What a step does, from its fault or its state.
use Rattle.std.proofs.Common.{◌≡◌, ℕ, ◌+◌, List, Option, Some, None, Result, Ok, Err, refl, sym, subst, length, ap, ◌∙◌}
use Rattle.std.specs.Prelude.{MatchOption, slice_set}
use Rattle.timetable.specs.Day.{Day, to_of, arrives, reallocation_of}
use Rattle.timetable.specs.Links.{list_of, given}
use Rattle.day_simulator.specs.declared.events.DayEvent.{DayEvent}
use Rattle.day_simulator.specs.declared.events.DayEvent.TheVariants.{Depart, Arrive}
use Rattle.day_simulator.specs.declared.events.UnitLocation.{UnitLocation}
use Rattle.day_simulator.specs.declared.events.UnitLocation.TheVariants.{Aboard, Yard, Standing}
use Rattle.day_simulator.specs.declared.events.Stage.{Stage}
use Rattle.day_simulator.specs.declared.events.Stage.TheVariants as stage
use Rattle.day_simulator.specs.declared.events.StepFault.{StepFault}
use Rattle.day_simulator.specs.Calls.{MakesStep}
use Rattle.day_simulator.specs.Machine.{Machine}
use Rattle.day_simulator.specs.State.{State, moment_of, put_all}
use Rattle.day_simulator.specs.Steps.{fault_of, after}
use Rattle.std.specs.Vec.{with_items}
use Rattle.std.specs.Prelude.{Vec}
use Rattle.std.proofs.lemmas.List.{with_items_is}
use Rattle.day_simulator.proofs.PutPlaces.{length-put_all}

-- a step where this is the fault, if there is one
abbrev StepWith : Machine → DayEvent → Result (Unit {0}) StepFault → Machine → Option StepFault → Type 0
StepWith old e result new o = MatchOption o ((result ≡ Ok tt) × (new ≡ record old { state = after old.day old.plan old.state e })) (λ fault. (result ≡ Err fault) × (new ≡ old))

-- a step that has a fault
pub step_fails : (old : Machine) (e : DayEvent) (fault : StepFault) → Some fault ≡ fault_of old.day old.plan old.state e → MakesStep old e (Err fault) old
step_fails old e fault is = subst (StepWith old e (Err fault) old) is (refl, refl)

-- a step that has none
pub step_goes : (old new : Machine) (e : DayEvent) → None ≡ fault_of old.day old.plan old.state e → new ≡ record old { state = after old.day old.plan old.state e } → MakesStep old e (Ok tt) new
step_goes old new e is now = subst (StepWith old e (Ok tt) new) is (refl, now)

-- units that were put to a place through a borrow of the places
pub put_in : {A : Type 0} (v : Vec UnitLocation A) (us : List ℕ) (p : UnitLocation) (ws : List UnitLocation) → ws ≡ put_all v.items us p → (with_items v ws).items ≡ put_all v.items us p
put_in v us p ws e = with_items_is v ws (ap length e ∙ length-put_all v.items us p ∙ sym v.ok.0) ∙ e

-- the state after a departure
pub departed : (day : Day) (plan : List (List ℕ)) (state : State) (t : ℕ) (locations : List UnitLocation) (stages : List Stage) (moment : ℕ)
    → locations ≡ put_all state.locations (list_of plan t) (Aboard t) → stages ≡ slice_set state.stages t stage.UnderWay → moment ≡ moment_of day (Depart t)
    → record { locations = locations; stages = stages; moment = moment } ≡ after day plan state (Depart t)
unfolding after
departed day plan state t locations stages moment p s m = rw (p, s, m) refl

-- the state after an arrival
pub arrived : (day : Day) (plan : List (List ℕ)) (state : State) (t : ℕ) (locations : List UnitLocation) (stages : List Stage) (moment : ℕ)
    → locations ≡ put_all (put_all state.locations (list_of plan t) (Standing t)) (given day plan t) (Yard (to_of day t) (arrives day t + reallocation_of day (to_of day t)))
    → stages ≡ slice_set state.stages t stage.Arrived → moment ≡ moment_of day (Arrive t)
    → record { locations = locations; stages = stages; moment = moment } ≡ after day plan state (Arrive t)
unfolding after
arrived day plan state t locations stages moment p s m = rw (p, s, m) refl
