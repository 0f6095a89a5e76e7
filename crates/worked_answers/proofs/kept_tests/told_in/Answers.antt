use Rattle.worked_answers.proofs.KeptRegions.{one_change}
use Rattle.worked_answers.proofs.kept_tests.told_in.Goals as goal

pub told_under-requires-clause-changes : goal.told_under-requires-clause-changes
told_under-requires-clause-changes c =
    one_change c.args.day.now _ (c.is_change.ensures.trip c.if-not-is_change.false)
    (c.is_change.ensures.base c.if-not-is_change.false) (c.is_change.ensures.cost c.if-not-is_change.false)
