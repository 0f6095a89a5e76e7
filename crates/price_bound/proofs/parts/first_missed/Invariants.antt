-- No second trip missed its part so far.
use Rattle.std.proofs.Common.{ℕ, ◌<◌}
use Rattle.price_bound.specs.Parts.{HasPart}
use Rattle.price_bound.proofs.parts.first_missed.Given as goal

abbrev pub invariant-loop-handover : goal.invariant-loop-handover
invariant-loop-handover l = (h : ℕ) → h < l.handover → HasPart l.instance l.picks h
