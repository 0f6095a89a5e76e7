use Rattle.std.proofs.Common.{rules, ◌≡◌, Result, Err, IfErr, sym, subst}
use Rattle.std.specs.Prelude.{MatchOption}
use Rattle.std.proofs.lemmas.Result.{IfOk-weaker, IfErr-weaker}
use Rattle.branch_tree.specs.Claims.{DoBound, IsPlanIn, IsProvedClaim, concluded_plan, said_by}
use Rattle.branch_tree.specs.Trees.{bounds_of}
use Rattle.cert_check.specs.declared.verdict.Reason.{Reason}
use Rattle.cert_check.specs.Reasons.{claim_tests, head_tests, plan_tests}
use Rattle.cert_check.specs.Tests.{FirstFails}
use Rattle.cert_check.proofs.Ordered.{fails_branchings, fails_node, fails_picks, fails_head}
use Rattle.cert_check.proofs.Proved.{is_proved}
use Rattle.cert_check.proofs.checker.test_claim.Goals as goal

pub returns-in_err-test_branchings-clause-reason : goal.returns-in_err-test_branchings-clause-reason
returns-in_err-test_branchings-clause-reason g c =
    let problem = g.R.Relaxation.meanings (g.R.Relaxation.problem c.args.problem.now) in
    let is : c.from_residual-in_err-test_branchings.result ≡ Err c.in_err-test_branchings.field-0.0 = search rules in
    subst (λ (tested : Result (Unit {0}) Reason). IfErr tested (λ reason. FirstFails (claim_tests problem c.args.root.now c.args.claim.now) reason)) (sym is)
    (fails_branchings problem c.args.root.now c.args.claim.now c.in_err-test_branchings.field-0.0 c.in_ok-test_shape.ensures.whole c.in_err-test_branchings.ensures.reason)

pub returns-in_err-test_nodes-clause-reason : goal.returns-in_err-test_nodes-clause-reason
returns-in_err-test_nodes-clause-reason g c =
    let problem = g.R.Relaxation.meanings (g.R.Relaxation.problem c.args.problem.now) in
    let is : c.from_residual-in_err-test_nodes.result ≡ Err c.in_err-test_nodes.field-0.0 = search rules in
    subst (λ (tested : Result (Unit {0}) Reason). IfErr tested (λ reason. FirstFails (claim_tests problem c.args.root.now c.args.claim.now) reason)) (sym is)
    (fails_node problem c.args.root.now c.args.claim.now c.in_err-test_nodes.field-0.0
    (record { whole = c.in_ok-test_shape.ensures.whole; same = c.in_ok-test_branchings.ensures.same }) c.in_err-test_nodes.ensures.reason)

pub returns-in_err-test_picks-clause-reason : goal.returns-in_err-test_picks-clause-reason
returns-in_err-test_picks-clause-reason g c =
    let problem = g.R.Relaxation.meanings (g.R.Relaxation.problem c.args.problem.now) in
    let is : c.from_residual-in_err-test_picks.result ≡ Err c.in_err-test_picks.field-0.0 = search rules in
    subst (λ (tested : Result (Unit {0}) Reason). IfErr tested (λ reason. FirstFails (claim_tests problem c.args.root.now c.args.claim.now) reason)) (sym is)
    (fails_picks problem c.args.root.now c.args.claim.now c.in_err-test_picks.field-0.0
    (record { whole = c.in_ok-test_shape.ensures.whole; same = c.in_ok-test_branchings.ensures.same }) c.in_ok-test_nodes.ensures.passed
    (subst (λ p. FirstFails (plan_tests (g.R.Relaxation.meanings p) c.args.root.now (concluded_plan (said_by c.args.claim.now.head))) c.in_err-test_picks.field-0.0) c.in_ok-test_nodes.ensures.problem
    (subst (λ root. FirstFails (plan_tests (g.R.Relaxation.meanings (g.R.Relaxation.problem c.test_nodes.new.problem)) root (concluded_plan (said_by c.args.claim.now.head))) c.in_err-test_picks.field-0.0) c.in_ok-test_nodes.ensures.root
    c.in_err-test_picks.ensures.reason)))

pub returns-clause-passed : goal.returns-clause-passed
returns-clause-passed g c =
    let problem = g.R.Relaxation.meanings (g.R.Relaxation.problem c.args.problem.now) in
    let claim = c.args.claim.now in
    let plan : MatchOption (concluded_plan (said_by claim.head)) (Unit {0}) (IsPlanIn problem c.args.root.now) =
    subst (λ p. MatchOption (concluded_plan (said_by claim.head)) (Unit {0}) (IsPlanIn (g.R.Relaxation.meanings p) c.args.root.now)) c.in_ok-test_nodes.ensures.problem
    (subst (λ root. MatchOption (concluded_plan (said_by claim.head)) (Unit {0}) (IsPlanIn (g.R.Relaxation.meanings (g.R.Relaxation.problem c.test_nodes.new.problem)) root)) c.in_ok-test_nodes.ensures.root c.in_ok-test_picks.ensures.passed) in
    IfOk-weaker c.test_head.result (λ _. DoBound (bounds_of claim.tree.now) (said_by claim.head)) (λ _. IsProvedClaim problem c.args.root.now claim)
    (λ _ said. is_proved problem c.args.root.now claim (record {
      whole = c.in_ok-test_shape.ensures.whole;
      branchings = c.in_ok-test_branchings.ensures.same;
      nodes = c.in_ok-test_nodes.ensures.passed;
      plan = plan;
      said = said;
    }))
    c.test_head.ensures.passed

pub returns-clause-reason : goal.returns-clause-reason
returns-clause-reason g c =
    let problem = g.R.Relaxation.meanings (g.R.Relaxation.problem c.args.problem.now) in
    let claim = c.args.claim.now in
    let plan : MatchOption (concluded_plan (said_by claim.head)) (Unit {0}) (IsPlanIn problem c.args.root.now) =
    subst (λ p. MatchOption (concluded_plan (said_by claim.head)) (Unit {0}) (IsPlanIn (g.R.Relaxation.meanings p) c.args.root.now)) c.in_ok-test_nodes.ensures.problem
    (subst (λ root. MatchOption (concluded_plan (said_by claim.head)) (Unit {0}) (IsPlanIn (g.R.Relaxation.meanings (g.R.Relaxation.problem c.test_nodes.new.problem)) root)) c.in_ok-test_nodes.ensures.root c.in_ok-test_picks.ensures.passed) in
    IfErr-weaker c.test_head.result (λ reason. FirstFails (head_tests (said_by claim.head) claim.tree.now) reason) (λ reason. FirstFails (claim_tests problem c.args.root.now claim) reason)
    (λ reason fails. fails_head problem (g.met.R.Relaxation.relaxes (g.R.Relaxation.problem c.args.problem.now) c.requires.accepted) c.args.root.now claim reason
    (record { whole = c.in_ok-test_shape.ensures.whole; same = c.in_ok-test_branchings.ensures.same }) c.in_ok-test_nodes.ensures.passed plan fails)
    c.test_head.ensures.reason
