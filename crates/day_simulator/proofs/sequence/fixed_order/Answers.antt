use Rattle.std.proofs.Common.{◌≡◌, ◌∙◌, ap, sym, rules, ℕ}
use Rattle.day_simulator.specs.Steps.{fixed_order, sorted_events, events_by_trip}
use Rattle.timetable.specs.Lists.{below}
use Rattle.day_simulator.proofs.FixedOrder.{sort_by_moment_is}
use Rattle.std.proofs.Common.{subst, length, ◌<◌}
use Rattle.std.specs.List.{All}
use Rattle.day_simulator.specs.State.{trip_of}
use Rattle.day_simulator.specs.declared.events.DayEvent.{DayEvent}
use Rattle.day_simulator.proofs.Simulating.{known_order}
use Rattle.day_simulator.proofs.sequence.fixed_order.Goals as goal

-- what the sort leaves
sorted_is : (c : goal.In_ok-sort_by_key) → c.sort_by_key.new.self.items ≡ fixed_order c.args.instance.now
unfolding fixed_order
sorted_is c =
    let day = c.args.instance.now in
    sort_by_moment_is day c.in_ok-order.order.items c.sort_by_key.new.self.items c.in_ok-sort_by_key.ensures.sorted c.in_ok-sort_by_key.ensures.stable (λ a r q k. search rules)
    ∙ ap (sorted_events day) (c.in_ok-order.ensures ∙ ap (λ (n : ℕ). events_by_trip (below n)) c.trips.ensures.value)

pub returns-clause-order : goal.returns-clause-order
returns-clause-order c = sorted_is c

pub returns-clause-known : goal.returns-clause-known
returns-clause-known c = subst (All (λ (e : DayEvent). trip_of e < length c.args.instance.now.trips)) (sym (sorted_is c)) (known_order c.args.instance.now)
