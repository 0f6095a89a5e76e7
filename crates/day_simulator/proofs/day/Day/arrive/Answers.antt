use Rattle.std.proofs.Common.{◌≡◌, ℕ, List, Some, None, Err, IsTrue, sym, ap, ◌∙◌, subst, true, length, arith}
use Rattle.day_simulator.specs.declared.events.DayEvent.TheVariants.{Arrive}
use Rattle.day_simulator.specs.declared.events.StepFault.TheVariants.{NotNow, LinkBroken}
use Rattle.timetable.specs.Links.{list_of, given}
use Rattle.timetable.specs.Lists.{has}
use Rattle.day_simulator.specs.Calls.{MakesStep}
use Rattle.day_simulator.specs.Machine.{Machine}
use Rattle.day_simulator.specs.Fields.{machine_in}
use Rattle.day_simulator.specs.Steps.{is_now, fault_of}
use Rattle.day_simulator.proofs.Faults.{not_now, arrival_now}
use Rattle.day_simulator.proofs.LinkTrips.{given_known}
use Rattle.day_simulator.proofs.PutPlaces.{length-put_all}
use Rattle.day_simulator.proofs.Stepping.{step_fails, step_goes, arrived, put_in}
use Rattle.std.specs.Vec.{with_items}
use Rattle.std.specs.Prelude.{slice_set, option_map}
use Rattle.timetable.specs.Day.{to_of, ready_at}
use Rattle.day_simulator.specs.declared.events.UnitLocation.{UnitLocation}
use Rattle.day_simulator.specs.declared.events.UnitLocation.TheVariants.{Standing, Yard}
use Rattle.day_simulator.specs.declared.events.Stage.TheVariants as stage
use Rattle.day_simulator.specs.State.{State, put_all}
use Rattle.day_simulator.proofs.day.Day.arrive.Goals as goal

pub returns-then-not-is_now : goal.returns-then-not-is_now
returns-then-not-is_now c =
    let p = c.args.self.now in
    let e = Arrive c.args.trip in
    step_fails p e (NotNow e) (not_now p.day p.plan p.state e (sym c.is_now.ensures ∙ c.if-not-is_now.true))

pub returns-in-Some : goal.returns-in-Some
returns-in-Some c =
    let p = machine_in c.self.inside in
    let t = c.args.trip in
    let e = Arrive t in
    let now : is_now p.day p.state e ≡ true = subst (λ (q : Machine). is_now q.day q.state e ≡ true) (sym c.self.view_is) (sym c.is_now.ensures ∙ c.if-not-is_now.false) in
    let breaks : Some (LinkBroken c.in-Some.link) ≡ fault_of p.day p.plan p.state e =
    ap (option_map (λ l. LinkBroken l)) (sym c.in-Some.is ∙ c.broken_out.ensures) ∙ arrival_now p.day p.plan p.state t now in
    subst (λ (q : Machine). MakesStep q e (Err (LinkBroken c.in-Some.link)) q) c.self.view_is (step_fails p e (LinkBroken c.in-Some.link) breaks)

pub put_all-requires-2 : goal.put_all-requires-2
put_all-requires-2 c = λ u h.
    let p = machine_in c.self.inside in
    let t = c.args.trip in
    let us = c.units.result.now in
    let listed = subst (λ (vs : List ℕ). IsTrue (has u vs)) (c.as_slice.ensures.value ∙ c.given-given.ensures) h in
    let known = given_known p.day p.plan c.self.invariant.plan t u listed in
    let put = c.put_all.ensures ∙ ap (λ (ps : List UnitLocation). put_all ps us (Standing t)) c.deref_mut.ensures.value in
    let standing = c.deref_mut-2.ensures.value ∙ put_in c.self.inside.locations us (Standing t) c.put_all.new.locations put in
    omega (arith, known, ap length standing, length-put_all p.state.locations us (Standing t), c.self.invariant.locations)

pub returns : goal.returns
returns c =
    let p = machine_in c.self.inside in
    let t = c.args.trip in
    let e = Arrive t in
    let us = c.units.result.now in
    let vs = c.as_slice.result.now in
    let yard = Yard c.to_of-station.result c.minutes-ready.result in
    let now : is_now p.day p.state e ≡ true = subst (λ (q : Machine). is_now q.day q.state e ≡ true) (sym c.self.view_is) (sym c.is_now.ensures ∙ c.if-not-is_now.false) in
    let none : None ≡ fault_of p.day p.plan p.state e =
    ap (option_map (λ l. LinkBroken l)) (sym c.in_default.is ∙ c.broken_out.ensures) ∙ arrival_now p.day p.plan p.state t now in
    let put = c.put_all.ensures ∙ ap (λ (ps : List UnitLocation). put_all ps us (Standing t)) c.deref_mut.ensures.value in
    let standing = put_in c.self.inside.locations us (Standing t) c.put_all.new.locations put in
    let put_again = c.put_all-2.ensures ∙ ap (λ (ps : List UnitLocation). put_all ps vs yard) c.deref_mut-2.ensures.value in
    let given_back = put_in (with_items c.self.inside.locations c.put_all.new.locations) vs yard c.put_all-2.new.locations put_again ∙ ap (λ (ps : List UnitLocation). put_all ps vs yard) standing in
    let listed = ap (λ (ws : List ℕ). put_all (put_all p.state.locations ws (Standing t)) vs yard) c.units.ensures.value in
    let passed_on = ap (λ (ws : List ℕ). put_all (put_all p.state.locations (list_of p.plan t) (Standing t)) ws yard) (c.as_slice.ensures.value ∙ c.given-given.ensures) in
    let ready : yard ≡ Yard (to_of p.day t) (ready_at p.day t) =
    ap (λ (m : ℕ). Yard c.to_of-station.result m) (c.minutes-ready.ensures.number ∙ c.ready_at.ensures.value) ∙ ap (λ (s : ℕ). Yard s (ready_at p.day t)) c.to_of-station.ensures.station in
    let placed = ap (λ (y : UnitLocation). put_all (put_all p.state.locations (list_of p.plan t) (Standing t)) (given p.day p.plan t) y) ready in
    let stages = ap (λ (k : ℕ). slice_set p.state.stages k stage.Arrived) c.place.ensures.number in
    let after = arrived p.day p.plan p.state t _ _ _ (given_back ∙ listed ∙ passed_on ∙ placed) stages c.moment_of-moment.ensures in
    rw (← c.self.view_is) (step_goes p _ e none (ap (λ (s : State). record p { state = s }) after))
