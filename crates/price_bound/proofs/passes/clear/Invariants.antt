-- The values so far are out.
use Rattle.std.proofs.Common.{◌≡◌, ℕ, ◌<◌, length}
use Rattle.price_bound.specs.PassValues.{no_sum, value_at}
use Rattle.price_bound.proofs.passes.clear.Given as goal

abbrev pub invariant-loop-place : goal.invariant-loop-place
invariant-loop-place l = record {
  long : length l.sums ≡ length l.fn.sums;
  none : (k : ℕ) → k < l.place → value_at l.sums k ≡ no_sum;
}
