use Rattle.std.proofs.Common.{◌≡◌}
use Rattle.trial_day.specs.Trial.{trial_links}
use Rattle.trial_day.proofs.rows.links.Given as goal

abbrev pub invariant-loop-pair : goal.invariant-loop-pair
invariant-loop-pair l = l.rows.items ≡ trial_links l.pair
