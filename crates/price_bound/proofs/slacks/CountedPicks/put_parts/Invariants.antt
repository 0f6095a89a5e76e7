-- The slacks are entered up to a hand-over, two for each at the most.
use Rattle.std.proofs.Common.{◌≡◌, ◌≤◌, ◌+◌, ◌*◌, length}
use Rattle.price_bound.specs.Entered.{entered, handover_index}
use Rattle.timetable.specs.Indices.{lambdas_of, mus_of}
use Rattle.price_bound.proofs.slacks.CountedPicks.put_parts.Given as goal

abbrev pub invariant-loop-handover : goal.invariant-loop-handover
invariant-loop-handover l = (l.into ≡ entered l.self.day l.self.picks (handover_index l.self.day l.handover)) × (length l.into ≤ length (lambdas_of l.self.day) + length (mus_of l.self.day) + 2 * l.handover)
