use Rattle.std.proofs.Common.{◌≡◌, sym, ap, ◌∙◌, subst, true, List}
use Rattle.day_simulator.specs.declared.events.DayEvent.TheVariants.{Depart}
use Rattle.day_simulator.specs.declared.events.UnitLocation.{UnitLocation}
use Rattle.day_simulator.specs.Fields.{machine_in}
use Rattle.day_simulator.specs.Machine.{Machine}
use Rattle.day_simulator.specs.Steps.{is_now, fault_of, train_fault}
use Rattle.day_simulator.proofs.Faults.{not_now, departure_now}
use Rattle.day_simulator.proofs.day.Day.departure_fault.Goals as goal

pub returns-then-not-is_now : goal.returns-then-not-is_now
returns-then-not-is_now c = not_now c.args.self.now.day c.args.self.now.plan c.args.self.now.state (Depart c.args.trip) (sym c.is_now.ensures ∙ c.if-not-is_now.true)

pub returns : goal.returns
returns c =
    let p = machine_in c.self.inside in
    let t = c.args.trip in
    let now : is_now p.day p.state (Depart t) ≡ true = subst (λ (q : Machine). is_now q.day q.state (Depart t) ≡ true) (sym c.self.view_is) (sym c.is_now.ensures ∙ c.if-not-is_now.false) in
    let faults = c.train_fault.ensures ∙ ap (λ (locations : List UnitLocation). train_fault p.day p.plan locations t) c.as_slice.ensures.value ∙ departure_now p.day p.plan p.state t now in
    subst (λ (q : Machine). c.train_fault.result ≡ fault_of q.day q.plan q.state (Depart t)) c.self.view_is faults
