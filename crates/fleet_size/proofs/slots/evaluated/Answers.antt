use Rattle.std.proofs.Common.{◌≡◌, ◌∙◌, ◌+◌, ◌*◌, ◌∷◌, [], ap, arith, sym}
use Rattle.search.specs.Questions.{in_rounds}
use Rattle.search.proofs.Asking.{are_asked_within, are_unasked}
use Rattle.fleet_boxes.specs.declared.nodes.BoxNode.{BoxNode}
use Rattle.fleet_size.specs.Found.{branchings_in}
use Rattle.fleet_size.proofs.Asked.{fewer_in_rounds}
use Rattle.fleet_size.proofs.Leaves.{box_fits, branchings_said, leaf_is_evaluated}
use Rattle.fleet_size.proofs.slots.evaluated.Goals as goal

pub day_with-requires-clause-fleet : goal.day_with-requires-clause-fleet
day_with-requires-clause-fleet g c = box_fits c.args.problem.tables.instance.now c.args.fleets c.is_sound.ensures c.requires.fleets

pub returns-in_err-day-clause-asked : goal.returns-in_err-day-clause-asked
returns-in_err-day-clause-asked g c =
    are_unasked _ _ (c.args.problem.granted.rounds * (2 * c.args.problem.granted.branchings + 1)) c.args.advisors.now.items

pub returns-clause-evaluated : goal.returns-clause-evaluated
returns-clause-evaluated g c =
    leaf_is_evaluated c.args.problem.tables.instance.now c.args.problem.prices.now c.args.problem.granted.branchings
    c.args.fleets c.args.best.now c.take_plan.new.best c.in_ok-answer.answer c.args.made c.node_of-node.result
    c.in_ok-day.day c.is_sound.ensures c.requires.fleets c.in_ok-day.ensures c.in_ok-answer.ensures.headline
    c.in_ok-take_plan.ensures.taken c.node_of-node.ensures c.in_ok-take_plan.ensures.best
    c.in_ok-take_plan.ensures.no_dearer

pub returns-clause-counted : goal.returns-clause-counted
returns-clause-counted g c =
    let rounds = c.args.problem.granted.rounds in
    let answer = c.in_ok-answer.answer in
    let node = c.node_of-node.result in
    let made : branchings_in (node ∷ []) ≡ answer.branchings =
    ap (λ (one : BoxNode). branchings_in (one ∷ [])) c.node_of-node.ensures ∙ branchings_said answer.head answer.branchings answer.tree in
    let most : rounds * (2 * answer.branchings + 1) ≡ rounds * (2 * branchings_in (node ∷ []) + 1) = ap (λ (n : _). rounds * (2 * n + 1)) (sym made) in
    are_asked_within _ _ (in_rounds rounds answer.branchings) (rounds * (2 * answer.branchings + 1)) (in_rounds rounds (branchings_in (node ∷ [])))
    (rounds * (2 * branchings_in (node ∷ []) + 1)) c.args.advisors.now.items c.planned.new.advisors.items
    (fewer_in_rounds rounds (branchings_in (node ∷ [])) answer.branchings (omega (arith, made))) (omega (arith, most)) c.in_ok-answer.ensures.counted
