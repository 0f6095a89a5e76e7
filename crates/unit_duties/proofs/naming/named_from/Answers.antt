use Rattle.std.proofs.Common.{◌≡◌, ◌∙◌, ◌<◌, ◌≤◌, ◌+◌, [], ℕ, List, length, reverse, take, set, get_or, replicate}
use Rattle.std.proofs.Common.{sym, subst, ap}
use Rattle.std.proofs.lemmas.List.{take_all}
use Rattle.std.proofs.lemmas.List.Elements.{All-get_or}
use Rattle.std.specs.List.{All}
use Rattle.rail_base.specs.declared.limits.TheConstants.{MAX_COMPOSITION_UNITS}
use Rattle.timetable.specs.Day.{to_of, ready_at}
use Rattle.timetable.specs.Picks.{picked}
use Rattle.timetable.specs.Running.{AreUnits}
use Rattle.inventory.specs.Places.{given_places}
use Rattle.unit_duties.specs.Yards.{ArePutIn}
use Rattle.unit_duties.proofs.NextTrip.{NamedSoFar, named_none, named_all, trips_in_order, is_made}
use Rattle.unit_duties.proofs.naming.named_from.Goals as goal

-- the trip at a place of such an order is one of the day
is_known : (trips i t : ℕ) (order items : List ℕ) → items ≡ order → All (λ s. s < trips) order → i < length items → t ≡ get_or items i t → t < trips
is_known trips i t order items is known lt at =
    subst (λ (s : ℕ). s < trips) (sym at) (All-get_or (λ (s : ℕ). s < trips) items i t lt (subst (All (λ (s : ℕ). s < trips)) (sym is) known))

pub loop-trip-init : goal.loop-trip-init
loop-trip-init c =
    let day = c.args.naming.instance.now in
    let types = picked day c.args.naming.picks.now in
    let none = named_none day types c.args.naming.minute c.args.naming.earlier.now c.in_ok-yards.yards c.in_ok-yards.ensures.home in
    subst (λ l. NamedSoFar day types c.args.naming.minute c.args.naming.earlier.now [] l c.in_ok-yards.yards) (ap (λ n. replicate n []) (sym c.trips.ensures.value) ∙ sym c.in_ok-lists.ensures) none

pub next_units-requires-clause-trip : goal.next_units-requires-clause-trip
next_units-requires-clause-trip c =
    is_known (length c.args.naming.instance.now.trips) c.loop-trip.trip-index c.trip-item.result c.in_ok-order.order.items c.deref-trip-items.result.now c.deref-trip-items.ensures.value c.in_ok-order.ensures.known c.loop-trip-test.true c.trip-item.is

pub next_units-requires-clause-lists : goal.next_units-requires-clause-lists
next_units-requires-clause-lists c = ap length c.deref.ensures.value ∙ c.loop-trip.invariant.long

pub next_units-requires-clause-known : goal.next_units-requires-clause-known
next_units-requires-clause-known c =
    let known = is_known (length c.args.naming.instance.now.trips) c.loop-trip.trip-index c.trip-item.result c.in_ok-order.order.items c.deref-trip-items.result.now c.deref-trip-items.ensures.value c.in_ok-order.ensures.known c.loop-trip-test.true c.trip-item.is in
    c.requires.can.listed c.trip-item.result known

pub give-requires-clause-trip : goal.give-requires-clause-trip
give-requires-clause-trip c =
    is_known (length c.args.naming.instance.now.trips) c.loop-trip.trip-index c.trip-item.result c.in_ok-order.order.items c.deref-trip-items.result.now c.deref-trip-items.ensures.value c.in_ok-order.ensures.known c.loop-trip-test.true c.trip-item.is

pub give-requires-clause-few : goal.give-requires-clause-few
give-requires-clause-few c =
    let made =
    is_made c.args.naming.instance.now c.args.naming.picks.now c.args.naming.minute c.args.naming.earlier.now c.is_sound.ensures c.requires.can
    c.deref-trip-items.result.now c.loop-trip.trip-index c.trip-item.result (c.deref-trip-items.ensures.value ∙ c.in_ok-order.ensures.order) c.loop-trip-test.true c.trip-item.is
    c.loop-trip.lists.items c.in_ok-units.units.items c.loop-trip.yards c.next_units.new.yards c.loop-trip.invariant c.deref.result.now c.deref.ensures.value c.in_ok-units.ensures in
    subst (λ (l : List ℕ). length l ≤ MAX_COMPOSITION_UNITS) (sym c.deref-in-loop-trip.ensures.value) made.few

pub give-requires-clause-known : goal.give-requires-clause-known
give-requires-clause-known c =
    let day = c.args.naming.instance.now in
    let types = picked day c.args.naming.picks.now in
    let made =
    is_made c.args.naming.instance.now c.args.naming.picks.now c.args.naming.minute c.args.naming.earlier.now c.is_sound.ensures c.requires.can
    c.deref-trip-items.result.now c.loop-trip.trip-index c.trip-item.result (c.deref-trip-items.ensures.value ∙ c.in_ok-order.ensures.order) c.loop-trip-test.true c.trip-item.is
    c.loop-trip.lists.items c.in_ok-units.units.items c.loop-trip.yards c.next_units.new.yards c.loop-trip.invariant c.deref.result.now c.deref.ensures.value c.in_ok-units.ensures in
    subst (λ (l : List ℕ). AreUnits day (given_places day types c.trip-item.result l)) (sym c.deref-in-loop-trip.ensures.value) made.known

pub of-requires : goal.of-requires
of-requires c =
    let made =
    is_made c.args.naming.instance.now c.args.naming.picks.now c.args.naming.minute c.args.naming.earlier.now c.is_sound.ensures c.requires.can
    c.deref-trip-items.result.now c.loop-trip.trip-index c.trip-item.result (c.deref-trip-items.ensures.value ∙ c.in_ok-order.ensures.order) c.loop-trip-test.true c.trip-item.is
    c.loop-trip.lists.items c.in_ok-units.units.items c.loop-trip.yards c.next_units.new.yards c.loop-trip.invariant c.deref.result.now c.deref.ensures.value c.in_ok-units.ensures in
    made.few

pub loop-trip-preserved : goal.loop-trip-preserved
loop-trip-preserved c =
    let day = c.args.naming.instance.now in
    let types = picked day c.args.naming.picks.now in
    let made =
    is_made c.args.naming.instance.now c.args.naming.picks.now c.args.naming.minute c.args.naming.earlier.now c.is_sound.ensures c.requires.can
    c.deref-trip-items.result.now c.loop-trip.trip-index c.trip-item.result (c.deref-trip-items.ensures.value ∙ c.in_ok-order.ensures.order) c.loop-trip-test.true c.trip-item.is
    c.loop-trip.lists.items c.in_ok-units.units.items c.loop-trip.yards c.next_units.new.yards c.loop-trip.invariant c.deref.result.now c.deref.ensures.value c.in_ok-units.ensures in
    let put = subst (λ (l : List ℕ). ArePutIn day (to_of day c.trip-item.result) (ready_at day c.trip-item.result) (given_places day types c.trip-item.result l) c.next_units.new.yards c.give.new.yards)
    c.deref-in-loop-trip.ensures.value c.in_ok-give.ensures in
    let more = made.next c.give.new.yards put in
    subst (λ k. NamedSoFar day types c.args.naming.minute c.args.naming.earlier.now (reverse (take (c.loop-trip.trip-index + 1) (trips_in_order day))) (set c.loop-trip.lists.items k c.of.result) c.give.new.yards)
    (sym c.place.ensures.number)
    (subst (λ (l : List ℕ). NamedSoFar day types c.args.naming.minute c.args.naming.earlier.now (reverse (take (c.loop-trip.trip-index + 1) (trips_in_order day))) (set c.loop-trip.lists.items c.trip-item.result l) c.give.new.yards)
    (sym c.of.ensures) more)

pub returns : goal.returns
returns c =
    let day = c.args.naming.instance.now in
    let types = picked day c.args.naming.picks.now in
    let all : take c.loop-trip.trip-index (trips_in_order day) ≡ trips_in_order day =
    take_all c.loop-trip.trip-index (trips_in_order day) (subst (λ (l : List ℕ). length l ≤ c.loop-trip.trip-index) (c.deref-trip-items.ensures.value ∙ c.in_ok-order.ensures.order) c.loop-trip-test.false) in
    c.of-2.ensures ∙ named_all day types c.args.naming.minute c.args.naming.earlier.now c.loop-trip.lists.items c.loop-trip.yards
    (subst (λ ts. NamedSoFar day types c.args.naming.minute c.args.naming.earlier.now (reverse ts) c.loop-trip.lists.items c.loop-trip.yards) all c.loop-trip.invariant)
