use Rattle.std.proofs.Common.{rules}
use Rattle.answer_check.proofs.Coming.{all_can_come, refused_can_come}
use Rattle.answer_check.proofs.checking.check_answer.Goals as goal

pub check_claim-requires-clause-accepted : goal.check_claim-requires-clause-accepted
check_claim-requires-clause-accepted c = c.is_sound.ensures

pub returns-in-Ok-clause-can_come : goal.returns-in-Ok-clause-can_come
returns-in-Ok-clause-can_come c =
    all_can_come c.args.instance.now c.is_sound.ensures c.args.answer.now _
    c.check_claim.ensures.verdict

pub returns-in-Err-clause-can_come : goal.returns-in-Err-clause-can_come
returns-in-Err-clause-can_come c =
    refused_can_come c.args.instance.now c.is_sound.ensures c.args.answer.now
    c.in-Err.refusal _ (search rules) c.verdict_of.ensures
