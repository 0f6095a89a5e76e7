-- The amounts so far are 0.
use Rattle.std.proofs.Common.{ℕ, ◌≡◌, ◌<◌, get_or, pos}
use Rattle.price_bound.proofs.credits.is_free.Given as goal

abbrev pub invariant-loop-place : goal.invariant-loop-place
invariant-loop-place l = (m : ℕ) → m < l.place → get_or l.amounts m (pos 0) ≡ pos 0
