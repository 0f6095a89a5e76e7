-- The trips of the pairs so far, and the state that their draws have left.
use Rattle.std.proofs.Common.{◌≡◌, ◌*◌}
use Rattle.trial_day.specs.Draws.{state_after}
use Rattle.trial_day.specs.Trial.{trial_trips}
use Rattle.trial_day.proofs.rows.trips.Given as goal

abbrev pub invariant-loop-pair : goal.invariant-loop-pair
invariant-loop-pair l = (l.rows.items ≡ trial_trips l.fn.seed l.pair) × (l.draws ≡ state_after l.fn.seed (2 * l.pair))
