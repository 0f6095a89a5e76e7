use Rattle.sample_days.proofs.Admitted.{MayRunBelow}
use Rattle.sample_days.proofs.picks.may_run.Given as goal

abbrev pub invariant-loop-number : goal.invariant-loop-number
invariant-loop-number l = MayRunBelow l.day l.picks l.number
