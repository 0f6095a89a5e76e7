use Rattle.std.proofs.Common.{length}
use Rattle.week_plan.proofs.heads.+head_of.Given as goal

abbrev pub decreases-head_of : goal.decreases-head_of
decreases-head_of l = length l.answers.now
