use Rattle.std.proofs.Common.{◌≡◌, ◌∙◌, ◌<◌, ℕ, ap, sym, subst, length, rules}
use Rattle.std.specs.List.{All}
use Rattle.timetable.specs.Day.{leaves}
use Rattle.timetable.specs.Duties.{in_order}
use Rattle.timetable.specs.Lists.{below}
use Rattle.timetable.proofs.Numbered.{below_rises}
use Rattle.timetable.proofs.Sorting.{stable_sort_is, with_number}
use Rattle.unit_duties.proofs.InOrder.{in_order_rises, with_minute, in_order_known}
use Rattle.unit_duties.proofs.order.trips_in_order.Goals as goal

-- what the sort leaves
sorted_is : (c : goal.In_ok-sort_by_key) → c.sort_by_key.new.self.items ≡ in_order c.args.instance.now (below (length c.args.instance.now.trips))
sorted_is c =
    let day = c.args.instance.now in
    let trips = below (length day.trips) in
    let made : c.in_ok-order.order.items ≡ trips = c.in_ok-order.ensures ∙ ap below c.trips.ensures.value in
    stable_sort_is (leaves day) c.in_ok-order.order.items c.sort_by_key.new.self.items (in_order day trips) c.in_ok-sort_by_key.ensures.sorted c.in_ok-sort_by_key.ensures.stable (λ a r q k. search rules)
    (in_order_rises day trips) (λ k. with_minute day k trips (below_rises (length day.trips)) ∙ ap (with_number (leaves day) k) (sym made))

pub returns-clause-order : goal.returns-clause-order
returns-clause-order c = sorted_is c

pub returns-clause-known : goal.returns-clause-known
returns-clause-known c = subst (All (λ (t : ℕ). t < length c.args.instance.now.trips)) (sym (sorted_is c)) (in_order_known c.args.instance.now (length c.args.instance.now.trips))
