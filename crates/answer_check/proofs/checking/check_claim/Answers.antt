use Rattle.std.proofs.Common.{rules}
use Rattle.answer_check.proofs.Checked.{says_refuted, says_true, says_valid}
use Rattle.answer_check.proofs.checking.check_claim.Goals as goal

pub returns-in-Valid-clause-verdict : goal.returns-in-Valid-clause-verdict
returns-in-Valid-clause-verdict c =
    says_valid c.args.instance.now c.args.answer.now c.args.picks.now c.claim_of-claim.result c.requires.picks
    c.claim_of-claim.ensures.head c.claim_of-claim.ensures.branchings c.claim_of-claim.ensures.tree (search rules)

pub returns-in-Valid-clause-holds : goal.returns-in-Valid-clause-holds
returns-in-Valid-clause-holds c same =
    says_true c.args.instance.now c.args.answer.now c.args.picks.now c.claim_of-claim.result c.requires.picks
    c.claim_of-claim.ensures.head c.claim_of-claim.ensures.branchings c.claim_of-claim.ensures.tree (search rules) c.requires.accepted

pub returns-in-Invalid-clause-verdict : goal.returns-in-Invalid-clause-verdict
returns-in-Invalid-clause-verdict c =
    says_refuted c.args.instance.now c.args.answer.now c.args.picks.now c.claim_of-claim.result c.requires.picks
    c.claim_of-claim.ensures.head c.claim_of-claim.ensures.branchings c.claim_of-claim.ensures.tree c.in-Invalid.reason (search rules)

pub returns-in-Invalid-clause-holds : goal.returns-in-Invalid-clause-holds
returns-in-Invalid-clause-holds c = search rules
