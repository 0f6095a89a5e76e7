use Rattle.std.proofs.Common.{rules, ◌≡◌, ◌∷◌, [], None, Err, Result, IfErr, length, refl, sym, subst, arith}
use Rattle.fleet_boxes.specs.Boxes.{box_of}
use Rattle.fleet_check.specs.declared.leaves.Leaves.{Leaves}
use Rattle.fleet_check.specs.declared.verdict.Stop.{Stop}
use Rattle.fleet_check.specs.Tests.{StopsAt}
use Rattle.fleet_check.specs.Verdicts.{tests_from}
use Rattle.fleet_check.proofs.OnTheWay.{begins, ends, few_so_far, fits_here, goes_on, some_wait, stops}
use Rattle.fleet_check.proofs.box_trees.test_nodes.Goals as goal

pub loop-number-init : goal.loop-number-init
loop-number-init c =
    begins c.args.tables.now.instance.now c.args.prices.now c.args.nodes.now c.new-waiting.result.items c.push.new.self.items c.in_ok-box_of.field-0
    (record { splits = 0; least = None }) c.is_sound.ensures c.requires.whole c.new-waiting.ensures.items c.in_ok-push.ensures.items
    c.in_ok-box_of.ensures.all refl refl

pub unreachable-requires : goal.unreachable-requires
unreachable-requires c =
    let none : length c.loop-number.waiting.items ≡ 0 = omega (arith, c.loop-number.waiting.ok, c.in_default.ensures.cases.0) in
    some_wait c.args.tables.now.instance.now c.args.prices.now c.args.nodes.now c.loop-number.number c.loop-number.waiting.items c.loop-number.leaves
    c.index-nodes-number.result c.loop-number-test.true c.index-nodes-number.is c.loop-number.invariant none

pub test_node-requires-clause-fits : goal.test_node-requires-clause-fits
test_node-requires-clause-fits c =
    fits_here c.args.tables.now.instance.now c.args.prices.now c.args.nodes.now c.loop-number.number c.loop-number.waiting.items c.pop.new.self.items
    c.in-Some.fleets c.loop-number.leaves c.index-nodes-number.result c.loop-number-test.true c.index-nodes-number.is c.in-Some.ensures.items c.loop-number.invariant

pub with_node-leaves-requires-clause-fits : goal.with_node-leaves-requires-clause-fits
with_node-leaves-requires-clause-fits c =
    fits_here c.args.tables.now.instance.now c.args.prices.now c.args.nodes.now c.loop-number.number c.loop-number.waiting.items c.pop.new.self.items
    c.in-Some.fleets c.loop-number.leaves c.index-nodes-number.result c.loop-number-test.true c.index-nodes-number.is c.in-Some.ensures.items c.loop-number.invariant

pub with_node-leaves-requires-clause-few : goal.with_node-leaves-requires-clause-few
with_node-leaves-requires-clause-few c =
    few_so_far c.args.tables.now.instance.now c.args.prices.now c.args.nodes.now c.loop-number.number c.loop-number.waiting.items c.loop-number.leaves _
    c.requires.whole c.requires.few c.loop-number.invariant

pub loop-number-preserved : goal.loop-number-preserved
loop-number-preserved c =
    goes_on c.args.tables.now.instance.now c.args.prices.now c.args.nodes.now c.loop-number.number c.loop-number.waiting.items c.pop.new.self.items
    c.wait_for_parts.new.waiting.items c.in-Some.fleets c.loop-number.leaves c.with_node-leaves.result c.index-nodes-number.result
    c.loop-number-test.true c.index-nodes-number.is c.in-Some.ensures.items c.loop-number.invariant c.in_ok-test_node.ensures.passed
    c.with_node-leaves.ensures.splits c.with_node-leaves.ensures.least c.in_ok-wait_for_parts.ensures

pub returns-clause-leaves : goal.returns-clause-leaves
returns-clause-leaves c =
    ends c.args.tables.now.instance.now c.args.prices.now c.args.nodes.now c.loop-number.number c.loop-number.waiting.items c.loop-number.leaves
    c.loop-number-test.false c.loop-number.invariant

pub returns-in_err-test_node-clause-stops : goal.returns-in_err-test_node-clause-stops
returns-in_err-test_node-clause-stops c =
    let is : c.from_residual-in_err-test_node.result ≡ Err c.in_err-test_node.field-0.0 = search rules in
    subst (λ (tested : Result Leaves Stop). IfErr tested (StopsAt (tests_from c.args.tables.now.instance.now 0 (box_of c.args.tables.now.instance.now ∷ []) c.args.nodes.now))) (sym is)
    (stops c.args.tables.now.instance.now c.args.prices.now c.args.nodes.now c.loop-number.number c.loop-number.waiting.items c.pop.new.self.items
    c.in-Some.fleets c.loop-number.leaves c.index-nodes-number.result c.in_err-test_node.field-0.0 c.loop-number-test.true c.index-nodes-number.is
    c.in-Some.ensures.items c.loop-number.invariant c.in_err-test_node.ensures.stops)
