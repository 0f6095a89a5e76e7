use Rattle.std.proofs.Common.{ℕ, ◌<◌, ◌≤◌}
use Rattle.branch_tree.specs.Regions.{set_at}
use Rattle.branch_tree.specs.Sets.{size_of}
use Rattle.search.proofs.nodes.PendingNode.divisible_trip.Given as goal

abbrev pub invariant-loop-trip : goal.invariant-loop-trip
invariant-loop-trip l = (trip : ℕ) → trip < l.trip → size_of (set_at l.self.region trip) ≤ 1
