use Rattle.std.proofs.Common.{◌≡◌, ℕ, List, sym, ap, ◌∙◌, subst}
use Rattle.day_simulator.specs.declared.events.DayEvent.TheVariants.{Depart}
use Rattle.day_simulator.specs.Machine.{Machine}
use Rattle.day_simulator.specs.Fields.{machine_in}
use Rattle.day_simulator.specs.Steps.{fault_of}
use Rattle.day_simulator.proofs.Stepping.{step_goes, departed, put_in}
use Rattle.std.specs.Prelude.{slice_set}
use Rattle.std.proofs.Common.{None}
use Rattle.day_simulator.specs.declared.events.UnitLocation.{UnitLocation}
use Rattle.day_simulator.specs.declared.events.UnitLocation.TheVariants.{Aboard}
use Rattle.day_simulator.specs.declared.events.Stage.TheVariants as stage
use Rattle.day_simulator.specs.State.{State, put_all}
use Rattle.day_simulator.proofs.day.Day.depart.Goals as goal

pub returns : goal.returns
returns c =
    let p = machine_in c.self.inside in
    let t = c.args.trip in
    let e = Depart t in
    let inside = c.self.inside in
    let none : None ≡ fault_of p.day p.plan p.state e =
    subst (λ (q : Machine). None ≡ fault_of q.day q.plan q.state e) (sym c.self.view_is) (sym c.in_default.is ∙ c.departure_fault.ensures) in
    let us = c.units-units.result.now in
    let put = c.put_all.ensures ∙ ap (λ (ps : List UnitLocation). put_all ps us (Aboard t)) c.deref_mut.ensures.value in
    let locations = put_in inside.locations us (Aboard t) c.put_all.new.locations put ∙ ap (λ (vs : List ℕ). put_all p.state.locations vs (Aboard t)) c.units-units.ensures.value in
    let stages = ap (λ (k : ℕ). slice_set p.state.stages k stage.UnderWay) c.place.ensures.number in
    let now = departed p.day p.plan p.state t _ _ _ locations stages c.moment_of-moment.ensures in
    rw (← c.self.view_is) (step_goes p _ e none (ap (λ (s : State). record p { state = s }) now))
