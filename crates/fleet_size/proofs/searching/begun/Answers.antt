use Rattle.std.proofs.Common.{◌≡◌, ◌∙◌, ◌+◌, ◌*◌, ◌++◌, ◌∷◌, [], List, ap, arith, length, subst, sym}
use Rattle.search.specs.Questions.{in_rounds}
use Rattle.search.proofs.Asking.{are_asked_within, are_unasked}
use Rattle.fleet_boxes.specs.Boxes.{box_of}
use Rattle.fleet_check.specs.Verdicts.{splits_in}
use Rattle.fleet_size.specs.declared.slots.Slot.{Slot}
use Rattle.fleet_size.specs.Found.{branchings_in}
use Rattle.fleet_size.specs.Slots.{AreSlots, IsPlaced, nodes_in, price_in}
use Rattle.fleet_size.proofs.Asked.{fewer_in_rounds}
use Rattle.fleet_size.proofs.SlotTrees.{box_like, no_split, one_slot, root_is_box}
use Rattle.fleet_size.proofs.searching.begun.Goals as goal

pub returns-in_err-root-clause-asked : goal.returns-in_err-root-clause-asked
returns-in_err-root-clause-asked g c =
    are_unasked _ _ (c.args.problem.granted.rounds * (2 * c.args.problem.granted.branchings + 1)) c.args.advisors.now.items

pub evaluated-requires-clause-fleets : goal.evaluated-requires-clause-fleets
evaluated-requires-clause-fleets g c =
    let day = c.args.problem.tables.instance.now in
    box_like day c.in_ok-root.root (box_of day) c.in_ok-root.ensures.all (root_is_box day)

pub returns-clause-search : goal.returns-clause-search
returns-clause-search g c =
    let day = c.args.problem.tables.instance.now in
    let prices = c.args.problem.prices.now in
    let grant = c.args.problem.granted.branchings in
    let after = c.evaluated.new.best in
    let slot = c.in_ok-slot.slot in
    let is = c.in_ok-slot.ensures.evaluated in
    let items : c.push.new.self.items ≡ slot ∷ [] = c.in_ok-push.ensures.items ∙ ap (λ (some : List Slot). some ++ slot ∷ []) c.new-slots.ensures.items in
    record {
      best = is.best;
      slots = subst (λ (slots : List Slot). AreSlots (IsPlaced day prices grant (price_in after)) (length day.types) (box_of day ∷ []) slots) (sym items)
          (one_slot day prices grant c.in_ok-root.root after slot is c.in_ok-root.ensures.all);
      splits = subst (λ (slots : List Slot). 0 ≡ splits_in (nodes_in slots)) (sym items) (no_split slot is.leaf);
    }

pub returns-clause-counted : goal.returns-clause-counted
returns-clause-counted g c =
    let rounds = c.args.problem.granted.rounds in
    let slot = c.in_ok-slot.slot in
    let items : c.push.new.self.items ≡ slot ∷ [] = c.in_ok-push.ensures.items ∙ ap (λ (some : List Slot). some ++ slot ∷ []) c.new-slots.ensures.items in
    let made : branchings_in (nodes_in c.push.new.self.items) ≡ branchings_in (slot.node ∷ []) = ap (λ (slots : List Slot). branchings_in (nodes_in slots)) items in
    let most : rounds * (2 * branchings_in (slot.node ∷ []) + 1) ≡ rounds * (2 * branchings_in (nodes_in c.push.new.self.items) + 1) = ap (λ (n : _). rounds * (2 * n + 1)) (sym made) in
    are_asked_within _ _ (in_rounds rounds (branchings_in (slot.node ∷ []))) (rounds * (2 * branchings_in (slot.node ∷ []) + 1))
    (in_rounds rounds (branchings_in (nodes_in c.push.new.self.items))) (rounds * (2 * branchings_in (nodes_in c.push.new.self.items) + 1))
    c.args.advisors.now.items c.evaluated.new.advisors.items
    (fewer_in_rounds rounds (branchings_in (nodes_in c.push.new.self.items)) (branchings_in (slot.node ∷ [])) (omega (arith, made)))
    (omega (arith, most)) c.in_ok-slot.ensures.counted
