use Rattle.std.proofs.Common.{rules, ◌≡◌, Err, Result, IfErr, sym, subst}
use Rattle.std.proofs.lemmas.Result.{IfOk-weaker, IfErr-weaker}
use Rattle.std.specs.Prelude.{◌∷◌, [], List, ℤ}
use Rattle.branch_tree.specs.Trees.{IsLeastOf}
use Rattle.fleet_check.specs.declared.verdict.Stop.{Stop}
use Rattle.fleet_check.specs.Heads.{DoesFollow}
use Rattle.fleet_check.specs.Tests.{StopsAt}
use Rattle.fleet_check.specs.Verdicts.{DoesHeadFail, IsValid, fleet_tests}
use Rattle.fleet_check.proofs.Ordered.{all_valid, stops_chosen, stops_head, stops_nodes, stops_shape, stops_splits}
use Rattle.fleet_check.proofs.checking.test_all.Goals as goal

pub returns-in_err-test_shape-clause-stops : goal.returns-in_err-test_shape-clause-stops
returns-in_err-test_shape-clause-stops c =
    let is : c.from_residual.result ≡ Err c.in_err-test_shape.field-0.0 = search rules in
    subst (λ (tested : Result (Unit {0}) Stop). IfErr tested (StopsAt (fleet_tests c.args.tables.now.instance.now c.args.prices.now c.args.fleet.now))) (sym is)
    (stops_shape c.args.tables.now.instance.now c.args.prices.now c.args.fleet.now c.items-nodes.result.now c.in_err-test_shape.field-0.0
    c.items-nodes.ensures c.in_err-test_shape.ensures.stops)

pub returns-in_err-leaves-clause-stops : goal.returns-in_err-leaves-clause-stops
returns-in_err-leaves-clause-stops c =
    let is : c.from_residual-in_err-leaves.result ≡ Err c.in_err-leaves.field-0.0 = search rules in
    subst (λ (tested : Result (Unit {0}) Stop). IfErr tested (StopsAt (fleet_tests c.args.tables.now.instance.now c.args.prices.now c.args.fleet.now))) (sym is)
    (stops_nodes c.args.tables.now.instance.now c.args.prices.now c.args.fleet.now c.items-nodes.result.now c.in_err-leaves.field-0.0
    c.items-nodes.ensures c.in_ok-test_shape.ensures.whole c.in_err-leaves.ensures.stops)

pub returns-in_err-test_splits-clause-stops : goal.returns-in_err-test_splits-clause-stops
returns-in_err-test_splits-clause-stops c =
    let is : c.from_residual-in_err-test_splits.result ≡ Err c.in_err-test_splits.field-0.0 = search rules in
    subst (λ (tested : Result (Unit {0}) Stop). IfErr tested (StopsAt (fleet_tests c.args.tables.now.instance.now c.args.prices.now c.args.fleet.now))) (sym is)
    (stops_splits c.args.tables.now.instance.now c.args.prices.now c.args.fleet.now c.items-nodes.result.now c.in_ok-leaves.leaves c.in_err-test_splits.field-0.0
    c.items-nodes.ensures c.in_ok-test_shape.ensures.whole c.in_ok-leaves.ensures.leaves c.in_err-test_splits.ensures.stops.0 c.in_err-test_splits.ensures.stops.1)

pub returns-in_err-test_chosen-clause-stops : goal.returns-in_err-test_chosen-clause-stops
returns-in_err-test_chosen-clause-stops c =
    let is : c.from_residual-in_err-test_chosen.result ≡ Err c.in_err-test_chosen.field-0.0 = search rules in
    subst (λ (tested : Result (Unit {0}) Stop). IfErr tested (StopsAt (fleet_tests c.args.tables.now.instance.now c.args.prices.now c.args.fleet.now))) (sym is)
    (stops_chosen c.args.tables.now.instance.now c.args.prices.now c.args.fleet.now c.items-nodes.result.now c.in_ok-leaves.leaves c.in_err-test_chosen.field-0.0
    c.items-nodes.ensures c.in_ok-test_shape.ensures.whole c.in_ok-leaves.ensures.leaves c.in_ok-test_splits.ensures.passed c.in_err-test_chosen.ensures.stops)

pub returns-clause-valid : goal.returns-clause-valid
returns-clause-valid c =
    IfOk-weaker c.test_head.result (λ _. (values : List ℤ) → IsLeastOf values c.in_ok-leaves.leaves.least → DoesFollow values c.args.fleet.now.head)
    (λ _. IsValid c.args.tables.now.instance.now c.args.prices.now c.args.fleet.now)
    (λ _ follows. all_valid c.args.tables.now.instance.now c.args.prices.now c.args.fleet.now c.items-nodes.result.now c.in_ok-leaves.leaves
    c.items-nodes.ensures c.in_ok-leaves.ensures.leaves c.in_ok-test_splits.ensures.passed c.in_ok-test_chosen.ensures.passed follows)
    c.test_head.ensures.passed

pub returns-clause-stops : goal.returns-clause-stops
returns-clause-stops c =
    IfErr-weaker c.test_head.result
    (λ stop. (values : List ℤ) → IsLeastOf values c.in_ok-leaves.leaves.least → StopsAt (DoesHeadFail values c.args.fleet.now.head ∷ []) stop)
    (λ stop. StopsAt (fleet_tests c.args.tables.now.instance.now c.args.prices.now c.args.fleet.now) stop)
    (λ stop fails. stops_head c.args.tables.now.instance.now c.args.prices.now c.args.fleet.now c.items-nodes.result.now c.in_ok-leaves.leaves stop
    c.items-nodes.ensures c.in_ok-test_shape.ensures.whole c.in_ok-leaves.ensures.leaves c.in_ok-test_splits.ensures.passed c.in_ok-test_chosen.ensures.passed fails)
    c.test_head.ensures.stops
