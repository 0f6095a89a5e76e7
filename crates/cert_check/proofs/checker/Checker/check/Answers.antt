use Rattle.std.proofs.Common.{◌∙◌, sym, subst}
use Rattle.branch_tree.specs.Claims.{said_by}
use Rattle.branch_tree.proofs.Concluding.{proved_is_concluded}
use Rattle.cert_check.specs.Reasons.{claim_tests}
use Rattle.cert_check.specs.Verdicts.{IsVerdict}
use Rattle.cert_check.proofs.Proved.{none_fails}
use Rattle.cert_check.proofs.Testing.{not_both}
use Rattle.cert_check.proofs.checker.Checker.check.Goals as goal
use Rattle.cert_check.proofs.checker.Checker.check.Goals.{in-Ok, in-Err}

pub returns-clause-verdict : goal.returns-clause-verdict
returns-clause-verdict g c =
    let problem = g.R.Relaxation.meanings (g.R.Relaxation.problem c.args.problem.now) in
    let root = c.args.root.now in
    let claim = c.args.claim.now in
    let passes = none_fails problem (g.met.R.Relaxation.relaxes (g.R.Relaxation.problem c.args.problem.now) c.trips-trips.ensures.accepted) root claim in
    elim c.match-tested.branch [
      | in-Ok w ↦ subst (IsVerdict problem root claim) (sym w.result-is) (w.in-Ok.ensures.passed, passes w.in-Ok.ensures.passed)
      | in-Err w ↦ subst (IsVerdict problem root claim) (sym w.result-is)
          ((λ proved. not_both (claim_tests problem root claim) w.in-Err.reason (passes proved) w.in-Err.ensures.reason), w.in-Err.ensures.reason)
    ]

pub returns-clause-holds : goal.returns-clause-holds
returns-clause-holds g c =
    let problem = g.R.Relaxation.meanings (g.R.Relaxation.problem c.args.problem.now) in
    let root = c.args.root.now in
    let claim = c.args.claim.now in
    elim c.match-tested.branch [
      | in-Ok w ↦ λ valid. proved_is_concluded problem
          (g.met.R.Relaxation.relaxes (g.R.Relaxation.problem c.args.problem.now) c.trips-trips.ensures.accepted)
          root (said_by claim.head) claim.branchings claim.tree.now w.in-Ok.ensures.passed
      | in-Err w ↦ λ valid. absurd (let not = sym w.result-is ∙ valid in cc)
    ]
