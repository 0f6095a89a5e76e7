use Rattle.std.proofs.Common.{◌≡◌, ◌∙◌, ◌+◌, ◌*◌, ◌/◌, ◌%◌, ◌<◌, ◌≤◌, ℕ, List, [], ◌∷◌, ap, arith, false, length, refl, set, subst, sym}
use Rattle.std.specs.List.{insert}
use Rattle.search.proofs.Asking.{are_unasked}
use Rattle.timetable.proofs.Indices.{InRows}
use Rattle.fleet_boxes.specs.declared.boxes.FleetBox.{FleetBox}
use Rattle.fleet_boxes.specs.declared.nodes.BoxNode.TheVariants.{Split}
use Rattle.fleet_boxes.specs.Boxes.{IsParted, box_of, lower_part, upper_part}
use Rattle.fleet_check.specs.Verdicts.{splits_in}
use Rattle.fleet_size.specs.declared.slots.Slot.{Slot}
use Rattle.fleet_size.specs.Found.{branchings_in}
use Rattle.fleet_size.specs.Slots.{AreSlots, IsBoxOf, IsEvaluated, IsPlaced, IsWideAt, is_split, nodes_in, price_in}
use Rattle.fleet_size.proofs.SlotTrees.{box_like, lower_is_box, more_branchings, placed_slot, put_after, replaced, rows_of_place, same_box, same_slot, slots_after, splits_after, still_placed, upper_is_evaluated}
use Rattle.fleet_size.proofs.searching.split.Goals as goal

pub returns-in_err-fleets-clause-asked : goal.returns-in_err-fleets-clause-asked
returns-in_err-fleets-clause-asked g c = are_unasked _ _ (c.args.problem.granted.rounds * (2 * c.args.problem.granted.branchings + 1)) c.args.advisors.now.items

pub returns-in_err-lower-clause-asked : goal.returns-in_err-lower-clause-asked
returns-in_err-lower-clause-asked g c = are_unasked _ _ (c.args.problem.granted.rounds * (2 * c.args.problem.granted.branchings + 1)) c.args.advisors.now.items

pub returns-in_err-upper-clause-asked : goal.returns-in_err-upper-clause-asked
returns-in_err-upper-clause-asked g c = are_unasked _ _ (c.args.problem.granted.rounds * (2 * c.args.problem.granted.branchings + 1)) c.args.advisors.now.items

-- the box of the leaf that is split
pub middle-at-requires : goal.middle-at-requires
middle-at-requires g c =
    let leaf = c.index.result.now in
    subst (λ (box : FleetBox). IsWideAt box c.args.next.place) (sym (same_box c.in_ok-fleets.fleets leaf.fleets c.in_ok-fleets.ensures.least c.in_ok-fleets.ensures.greatest))
    (c.requires.next.wide leaf c.index.ensures)

pub evaluated-requires-clause-fleets : goal.evaluated-requires-clause-fleets
evaluated-requires-clause-fleets g c =
    let day = c.args.problem.tables.instance.now in
    let leaf = c.index.result.now in
    let fleets : FleetBox = c.in_ok-fleets.fleets in
    let same : fleets ≡ leaf.fleets = same_box fleets leaf.fleets c.in_ok-fleets.ensures.least c.in_ok-fleets.ensures.greatest in
    let placed = placed_slot day c.args.problem.prices.now c.args.problem.granted.branchings (price_in c.args.search.now.best) c.args.search.now.slots.items c.args.next.slot leaf c.requires.next.within c.index.ensures c.requires.search.slots in
    let is : IsBoxOf day fleets = box_like day fleets leaf.fleets same placed.box in
    box_like day c.in_ok-lower.lower (lower_part c.args.next.place c.middle-at.result fleets)
    (same_box c.in_ok-lower.lower (lower_part c.args.next.place c.middle-at.result fleets) c.in_ok-lower.ensures.least c.in_ok-lower.ensures.greatest)
    (lower_is_box day fleets c.args.next.place c.middle-at.result is c.middle-at.ensures)

pub nonzero_div-node : goal.nonzero_div-node
nonzero_div-node g c =
    let day = c.args.problem.tables.instance.now in
    let leaf = c.index.result.now in
    let fleets : FleetBox = c.in_ok-fleets.fleets in
    let same : fleets ≡ leaf.fleets = same_box fleets leaf.fleets c.in_ok-fleets.ensures.least c.in_ok-fleets.ensures.greatest in
    let placed = placed_slot day c.args.problem.prices.now c.args.problem.granted.branchings (price_in c.args.search.now.best) c.args.search.now.slots.items c.args.next.slot leaf c.requires.next.within c.index.ensures c.requires.search.slots in
    let rows : InRows c.args.next.place (length day.stations) (length day.types) = rows_of_place day fleets c.args.next.place (box_like day fleets leaf.fleets same placed.box) c.middle-at.ensures.least_there in
    let some : 1 ≤ length day.types = rows.some in
    omega (arith, some, c.len-types.ensures.value, ap (λ (types : List _). length types) c.types.ensures.value)

pub nonzero_rem-node : goal.nonzero_rem-node
nonzero_rem-node g c =
    let day = c.args.problem.tables.instance.now in
    let leaf = c.index.result.now in
    let fleets : FleetBox = c.in_ok-fleets.fleets in
    let same : fleets ≡ leaf.fleets = same_box fleets leaf.fleets c.in_ok-fleets.ensures.least c.in_ok-fleets.ensures.greatest in
    let placed = placed_slot day c.args.problem.prices.now c.args.problem.granted.branchings (price_in c.args.search.now.best) c.args.search.now.slots.items c.args.next.slot leaf c.requires.next.within c.index.ensures c.requires.search.slots in
    let rows : InRows c.args.next.place (length day.stations) (length day.types) = rows_of_place day fleets c.args.next.place (box_like day fleets leaf.fleets same placed.box) c.middle-at.ensures.least_there in
    let some : 1 ≤ length day.types = rows.some in
    omega (arith, some, c.len-types.ensures.value, ap (λ (types : List _). length types) c.types.ensures.value)

pub returns-clause-search : goal.returns-clause-search
returns-clause-search g c =
    let day = c.args.problem.tables.instance.now in
    let leaf = c.index.result.now in
    let fleets : FleetBox = c.in_ok-fleets.fleets in
    let same : fleets ≡ leaf.fleets = same_box fleets leaf.fleets c.in_ok-fleets.ensures.least c.in_ok-fleets.ensures.greatest in
    let placed = placed_slot day c.args.problem.prices.now c.args.problem.granted.branchings (price_in c.args.search.now.best) c.args.search.now.slots.items c.args.next.slot leaf c.requires.next.within c.index.ensures c.requires.search.slots in
    let rows : InRows c.args.next.place (length day.stations) (length day.types) = rows_of_place day fleets c.args.next.place (box_like day fleets leaf.fleets same placed.box) c.middle-at.ensures.least_there in
    let prices = c.args.problem.prices.now in
    let grant = c.args.problem.granted.branchings in
    let before = c.args.search.now.best in
    let after = c.evaluated.new.best in
    let slots = c.args.search.now.slots.items in
    let k = c.args.next.slot in
    let place = c.args.next.place in
    let at = c.middle-at.result in
    let types : c.len-types.result ≡ length day.types = c.len-types.ensures.value ∙ ap (λ (types : List _). length types) c.types.ensures.value in
    let s = place / c.len-types.result in
    let m = place % c.len-types.result in
    let row : s < length day.stations = subst (λ (n : ℕ). place / n < length day.stations) (sym types) rows.row in
    let column : m < length day.types = subst (λ (n : ℕ). place % n < length day.types) (sym types) rows.place in
    let here : place ≡ s * length day.types + m = sym (subst (λ (n : ℕ). place / n * length day.types + place % n ≡ place) (sym types) rows.is) in
    let none : is_split leaf.node ≡ false = c.requires.next.leaf leaf c.index.ensures in
    let parted : IsParted leaf.fleets place at = subst (λ (box : FleetBox). IsParted box place at) same c.middle-at.ensures in
    let lower : c.in_ok-lower.lower ≡ lower_part place at leaf.fleets =
    same_box c.in_ok-lower.lower (lower_part place at fleets) c.in_ok-lower.ensures.least c.in_ok-lower.ensures.greatest ∙ ap (lower_part place at) same in
    let upper : c.in_ok-upper.upper ≡ upper_part place at leaf.fleets =
    same_box c.in_ok-upper.upper (upper_part place at fleets) c.in_ok-upper.ensures.least c.in_ok-upper.ensures.greatest ∙ ap (upper_part place at) same in
    let one = subst (λ (box : FleetBox). IsEvaluated day prices grant box before after c.in_ok-first.first) lower c.in_ok-first.ensures.evaluated in
    let split : Slot = record { fleets = fleets; made = c.args.next.made; node = Split s m at } in
    let second : Slot = record { fleets = c.in_ok-upper.upper; made = 2 * c.args.search.now.splits + 1 + 1; node = c.replace-whole.result.node } in
    let kept : c.replace-whole.result ≡ leaf = same_slot slots k c.replace-whole.result leaf c.requires.next.within c.replace-whole.ensures.value c.index_mut.ensures.value c.index.ensures in
    let still = still_placed day prices grant (price_in before) (price_in after) leaf one.no_dearer placed in
    let two : IsEvaluated day prices grant (upper_part place at leaf.fleets) after after second =
    upper_is_evaluated day prices grant after leaf second place at one.best none parted still upper (ap (λ (slot : Slot). slot.node) kept) in
    let items : c.insert-2.new.self.items ≡ replaced slots k split c.in_ok-first.first second =
    put_after slots k split c.in_ok-first.first second c.insert.new.self.items c.insert-2.new.self.items c.requires.next.within
    (c.in_ok-insert.ensures.items ∙ ap (λ (slot : Slot). insert (set slots k slot) (k + 1) c.in_ok-first.first) c.replace-whole.ensures.after) c.in_ok-insert-2.ensures.items in
    record {
      best = one.best;
      slots = subst (λ (some : List Slot). AreSlots (IsPlaced day prices grant (price_in after)) (length day.types) (box_of day ∷ []) some) (sym items)
          (slots_after day prices grant before after after slots k leaf c.in_ok-first.first second fleets c.args.next.made place s m at here c.requires.next.within c.index.ensures none parted row column same one two
          c.requires.search.slots);
      splits = ap (λ (n : ℕ). n + 1) c.requires.search.splits ∙ sym (ap (λ (some : List Slot). splits_in (nodes_in some)) items
          ∙ splits_after day prices grant before after after slots k leaf c.in_ok-first.first second fleets c.args.next.made place s m at here c.requires.next.within c.index.ensures none parted row column same one two);
    }

pub returns-clause-counted : goal.returns-clause-counted
returns-clause-counted g c =
    let leaf = c.index.result.now in
    let slots = c.args.search.now.slots.items in
    let k = c.args.next.slot in
    let first = c.in_ok-first.first in
    let s = c.args.next.place / c.len-types.result in
    let m = c.args.next.place % c.len-types.result in
    let split : Slot = record { fleets = c.in_ok-fleets.fleets; made = c.args.next.made; node = Split s m c.middle-at.result } in
    let second : Slot = record { fleets = c.in_ok-upper.upper; made = 2 * c.args.search.now.splits + 1 + 1; node = c.replace-whole.result.node } in
    let kept : c.replace-whole.result ≡ leaf = same_slot slots k c.replace-whole.result leaf c.requires.next.within c.replace-whole.ensures.value c.index_mut.ensures.value c.index.ensures in
    let items : c.insert-2.new.self.items ≡ replaced slots k split first second =
    put_after slots k split first second c.insert.new.self.items c.insert-2.new.self.items c.requires.next.within
    (c.in_ok-insert.ensures.items ∙ ap (λ (slot : Slot). insert (set slots k slot) (k + 1) c.in_ok-first.first) c.replace-whole.ensures.after) c.in_ok-insert-2.ensures.items in (
      branchings_in (first.node ∷ []),
      ap (λ (some : List Slot). branchings_in (nodes_in some)) items
          ∙ more_branchings slots k leaf split first second s m c.middle-at.result c.requires.next.within c.index.ensures refl (ap (λ (slot : Slot). slot.node) kept),
      c.in_ok-first.ensures.counted,
    )
