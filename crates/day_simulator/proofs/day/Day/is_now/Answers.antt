use Rattle.std.proofs.Common.{◌≡◌, ◌<◌, ◌≤◌, List, false, sym, ap, ◌∙◌, subst, arith, length}
use Rattle.std.specs.List.{list_all}
use Rattle.timetable.specs.Links.{trips_into}
use Rattle.day_simulator.specs.declared.events.Stage.{Stage}
use Rattle.day_simulator.specs.declared.events.DayEvent.TheVariants.{Depart, Arrive}
use Rattle.day_simulator.specs.Machine.{Machine}
use Rattle.day_simulator.specs.Fields.{machine_in}
use Rattle.day_simulator.specs.State.{stage_of, is_waiting, is_under_way, has_arrived, moment_of}
use Rattle.day_simulator.specs.Steps.{is_now}
use Rattle.day_simulator.proofs.Faults.{too_late, departure_of_waiting, departure_of_left, arrival_in_time}
use Rattle.day_simulator.proofs.Missing.{stage_read}
use Rattle.day_simulator.proofs.day.Day.is_now.Goals as goal

pub returns-then-self-moment_of : goal.returns-then-self-moment_of
returns-then-self-moment_of c =
    let p = machine_in c.self.inside in
    subst (λ (q : Machine). false ≡ is_now q.day q.state c.args.event) c.self.view_is (too_late p.day p.state c.args.event (omega arith))

pub returns-then-is_waiting : goal.returns-then-is_waiting
returns-then-is_waiting c =
    let p = machine_in c.self.inside in
    let t = c.in-Depart.trip in
    let within : t < length p.day.trips = subst (λ (q : Machine). t < length q.day.trips) (sym c.self.view_is) (rw c.in-Depart.is at c.requires) in
    let not_passed : p.state.moment ≤ moment_of p.day c.args.event = omega (arith, c.moment_of.ensures) in
    let in_time : p.state.moment ≤ moment_of p.day (Depart t) = rw c.in-Depart.is at not_passed in
    let read = stage_read p.state.stages t c.place.result c.index.result.now c.place.ensures.number (omega (arith, c.place.ensures.number, c.self.invariant.stages, within)) c.index.ensures in
    let waits = ap is_waiting read ∙ sym c.is_waiting.ensures ∙ c.if-is_waiting.true in
    let arrived = c.have_trips_into_arrived.ensures ∙ ap (λ (ss : List Stage). list_all (λ a. has_arrived (stage_of ss a)) (trips_into p.day t)) c.as_slice.ensures.value in
    subst (λ (q : Machine). c.have_trips_into_arrived.result ≡ is_now q.day q.state c.args.event) c.self.view_is
    (arrived ∙ sym (departure_of_waiting p.day p.state t in_time waits) ∙ ap (is_now p.day p.state) (sym c.in-Depart.is))

pub returns-else-is_waiting : goal.returns-else-is_waiting
returns-else-is_waiting c =
    let p = machine_in c.self.inside in
    let t = c.in-Depart.trip in
    let within : t < length p.day.trips = subst (λ (q : Machine). t < length q.day.trips) (sym c.self.view_is) (rw c.in-Depart.is at c.requires) in
    let not_passed : p.state.moment ≤ moment_of p.day c.args.event = omega (arith, c.moment_of.ensures) in
    let in_time : p.state.moment ≤ moment_of p.day (Depart t) = rw c.in-Depart.is at not_passed in
    let read = stage_read p.state.stages t c.place.result c.index.result.now c.place.ensures.number (omega (arith, c.place.ensures.number, c.self.invariant.stages, within)) c.index.ensures in
    let left = ap is_waiting read ∙ sym c.is_waiting.ensures ∙ c.if-is_waiting.false in
    subst (λ (q : Machine). c.is_waiting.result ≡ is_now q.day q.state c.args.event) c.self.view_is
    (c.if-is_waiting.false ∙ sym (departure_of_left p.day p.state t in_time left) ∙ ap (is_now p.day p.state) (sym c.in-Depart.is))

pub returns-in-Arrive : goal.returns-in-Arrive
returns-in-Arrive c =
    let p = machine_in c.self.inside in
    let t = c.in-Arrive.trip in
    let within : t < length p.day.trips = subst (λ (q : Machine). t < length q.day.trips) (sym c.self.view_is) (rw c.in-Arrive.is at c.requires) in
    let not_passed : p.state.moment ≤ moment_of p.day c.args.event = omega (arith, c.moment_of.ensures) in
    let in_time : p.state.moment ≤ moment_of p.day (Arrive t) = rw c.in-Arrive.is at not_passed in
    let read = stage_read p.state.stages t c.place-in-Arrive.result c.index-in-Arrive.result.now c.place-in-Arrive.ensures.number (omega (arith, c.place-in-Arrive.ensures.number, c.self.invariant.stages, within)) c.index-in-Arrive.ensures in
    subst (λ (q : Machine). c.is_under_way.result ≡ is_now q.day q.state c.args.event) c.self.view_is
    (c.is_under_way.ensures ∙ ap is_under_way (sym read) ∙ sym (arrival_in_time p.day p.state t in_time) ∙ ap (is_now p.day p.state) (sym c.in-Arrive.is))
